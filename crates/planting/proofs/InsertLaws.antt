-- An insertion at a row that was found. What a piece that fits tells of the columns, `room`; what the passes over them
-- leave is the outcome, `insert_made`. Assumes nothing.
use mathlib.Core.Path.{◌≡◌, sym, ap, subst, ◌∙◌}
use mathlib.Core.List.{List, map}
use Prim.Native.Nat.{ℕ, ◌+◌, ◌<◌, ◌≤◌}
use native.Mathlib.Omega.{arith}
use lib.IntN.{pos}
use lib.ListN.{length}
use Rattle.tree.specs.Table.{Table, at, shortest}
use Rattle.tree.specs.Rules.{Sound}
use Rattle.tree.specs.EditRules.{InsertFits}
use Rattle.tree.specs.Edit.{opened, changed, gap_of, inserted, insert_done}
use Rattle.tree.specs.Refusal.{insert_check, passed}
use Rattle.tree.specs.Outcome.{row_there}
use Rattle.tree.specs.declared.Located.{Located}
use Rattle.tree.specs.declared.Done.{Done}
use Rattle.tree.proofs.AcceptLaws.{insert_passes}
use Rattle.tree.proofs.EditLaws.{gap_fits}
use Rattle.table.specs.RowFound.{RowKnown}
use Rattle.edit_at.specs.EditLeaves.{EditLeaves}
use Rattle.edit_at.specs.AtRow.{PieceChecked, insert_at}
use Rattle.shift.specs.Done.{answered}
use Rattle.sizes.specs.Upward.{up_from}
use Rattle.edit_at.proofs.OutcomeLaws.{leaves, own_passed}
use Rattle.std.specs.Prelude.{Ok}

-- what the passes over the columns ask for
pub record Room (t : Table) (r : ℕ) (p : Table) : Type 0 where
  pub gap : r + 1 + at t.size r ≤ t.count
  pub few : t.count + p.count ≤ 4096
  pub shallow : at t.level r ≤ 63
  pub low : (i : ℕ) → i < p.count → at p.level i + (at t.level r + 1) ≤ 63
  pub in_key : t.count + p.count ≤ length t.key
  pub in_size : t.count + p.count ≤ length t.size
  pub in_level : t.count + p.count ≤ length t.level
  pub in_kind : t.count + p.count ≤ length t.kind
  pub in_name : t.count + p.count ≤ length t.name
  pub of_few : p.count ≤ 4096
  pub of_key : p.count ≤ length p.key
  pub of_size : p.count ≤ length p.size
  pub of_level : p.count ≤ length p.level
  pub of_kind : p.count ≤ length p.kind
  pub of_name : p.count ≤ length p.name

-- the piece fits under the row r that was found
module _ (t : Table) (f : Located) (p : Table) (k : PieceChecked t f p) (r : ℕ) (here : r ≡ row_there f) where
  known : RowKnown t r
  known = subst (RowKnown t) (sym here) k.found.known

  fits : insert_check t r p ≡ passed
  fits = subst (λ (i : ℕ). insert_check t i p ≡ passed) (sym here) k.fits

  pub room : Room t r p
  unfolding gap_of shortest
  room =
      let i : InsertFits t r p = (insert_passes t r p).0 fits in
      let s : Sound t = known.sound in
      let h : r < t.count = known.in_use in
      let z : t.count + p.count ≤ shortest t = i.room in
      record {
        gap = omega (arith, gap_fits t s r h);
        few = i.few;
        shallow = (s.rows r h).levels.low;
        low = i.low;
        of_few = i.piece.in_use.few;
        in_key = omega arith;
        in_size = omega arith;
        in_level = omega arith;
        in_kind = omega arith;
        in_name = omega arith;
        of_key = i.piece.in_use.in_key;
        of_size = i.piece.in_use.in_size;
        of_level = i.piece.in_use.in_level;
        of_kind = i.piece.in_use.in_kind;
        of_name = i.piece.in_use.in_name;
      }

  -- the sizes raised, then a gap opened in every column
  pub insert_made : {d : Done} {high key size level kind name : List ℕ}
      → high ≡ changed (up_from t.level (row_there f)) (λ s. s + p.count) t.size
      → key ≡ opened (r + 1 + at t.size r) t.count p.count p.key t.key
      → size ≡ opened (r + 1 + at t.size r) t.count p.count p.size high
      → level ≡ opened (r + 1 + at t.size r) t.count p.count
      (map (λ l. l + (at t.level r + 1)) p.level) t.level
      → kind ≡ opened (r + 1 + at t.size r) t.count p.count p.kind t.kind
      → name ≡ opened (r + 1 + at t.size r) t.count p.count p.name t.name
      → d ≡ answered (t.count + p.count) (r + 1 + at t.size r) (pos p.count)
      → EditLeaves (insert_at t (row_there f) p) (Ok d) key size level kind name
  unfolding inserted insert_done gap_of
  insert_made {d = d} {key = key} {size = size} {level = level} {kind = kind} {name = name} raised keys sizes levels
      kinds names done =
      let o = leaves (inserted t r p) (own_passed (insert_done t r p) (inserted t r p) t fits) in
      let same : r + 1 + at t.size r ≡ r + (at t.size r + 1) = omega arith in
      let column : (ys xs : List ℕ) → opened (r + 1 + at t.size r) t.count p.count ys xs
      ≡ opened (gap_of t r) t.count p.count ys xs =
      λ ys xs. ap (λ (g : ℕ). opened g t.count p.count ys xs) same in
      subst (λ (i : ℕ). EditLeaves (insert_at t i p) (Ok d) key size level kind name) here (record {
        answers = ap Ok (done ∙ ap (λ (g : ℕ). answered (t.count + p.count) g (pos p.count)) same)
            ∙ o.answers;
        key_is = keys ∙ column p.key t.key ∙ o.key_is;
        size_is = sizes ∙ column p.size _
            ∙ ap (opened (gap_of t r) t.count p.count p.size)
            (raised ∙ ap (λ (i : ℕ). changed (up_from t.level i) (λ s. s + p.count) t.size) (sym here))
            ∙ o.size_is;
        level_is = levels ∙ column (map (λ l. l + (at t.level r + 1)) p.level) t.level ∙ o.level_is;
        kind_is = kinds ∙ column p.kind t.kind ∙ o.kind_is;
        name_is = names ∙ column p.name t.name ∙ o.name_is;
      })

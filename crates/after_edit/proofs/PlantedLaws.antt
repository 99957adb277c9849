-- After an accepted insertion the rows of the piece stand from the first moved row on and hold what they held, their
-- levels raised by the parent's level plus one: `piece_there`. Each is found there by its key: `piece_found`. The
-- first of them is the last child of the named row, `last_child`: it is found under that row, `piece_under`, is on its
-- child axis, and no row follows it as a sibling, `last_on_axis`. Assumes nothing.
use mathlib.Core.Path.{◌≡◌, refl, sym, ap, ◌∙◌}
use mathlib.Core.Bool.{Bool, true, false, cond, ◌||◌}
use mathlib.Core.List.{List, [], ◌∷◌, map}
use Prim.Native.Nat.{ℕ, zero, suc, ◌+◌, ◌-◌, ◌<◌, ◌≤◌}
use native.Mathlib.Nat.{le_of_suc-le-suc, not-suc-le-zero}
use native.Mathlib.Omega.{arith}
use borrow.Author.Tests.{eqb-true, eq-eqb, ltb-true}
use lib.Dec.{ltb, eqb}
use lib.ListN.{length, length-map}
use Rattle.tree.specs.Table.{Table, at}
use Rattle.tree.specs.Sound.{row_of}
use Rattle.tree.specs.Rules.{InUse, Sound}
use Rattle.tree.specs.Tree.{parent, ancestor, siblings}
use Rattle.tree.specs.Axis.{on_axis}
use Rattle.tree.specs.Edit.{opened, gap_of, inserted, insert_done}
use Rattle.tree.specs.Outcome.{find_outcome, found_at, insert_outcome}
use Rattle.tree.specs.declared.Done.{Done}
use Rattle.tree.specs.declared.Located.TheVariants.{Under as Below}
use Rattle.tree.proofs.TreeLaws.{parent_less}
use Rattle.tree.proofs.SoundLaws.{sound_shape, both, either_left}
use Rattle.tree.proofs.SubtreeLaws.{child_within, child_is}
use Rattle.tree.proofs.AxisLaws.{false_of}
use Rattle.tree.proofs.AcceptLaws.{only_root, insert_passes}
use Rattle.tree.proofs.ColumnLaws.{opened_new, opened_stays, changed_at, length_changed}
use Rattle.tree.proofs.EditLaws.{gap_fits}
use Rattle.tree.proofs.StandingLaws.{stands_under}
use Rattle.tree.proofs.FindLaws.{find_row}
use Rattle.after_edit.specs.Act.{insertion, row_named, table_after, done_of}
use Rattle.after_edit.specs.Planted.{Planted, LastChild}
use Rattle.after_edit.proofs.ActLaws.{Fits, accepted_has, after_sound}
use Rattle.after_edit.proofs.FoundAgain.{edited_sound}
use Rattle.std.specs.Prelude.{Ok}

-- what g makes of a column holds at each row what g makes of that row
map_at : (g : ℕ → ℕ) (xs : List ℕ) (i : ℕ) → i < length xs → at (map g xs) i ≡ g (at xs i)
map_at g [] i l = absurd (not-suc-le-zero l)
map_at g (x ∷ xs) zero l = refl
map_at g (x ∷ xs) (suc i) l = map_at g xs i (le_of_suc-le-suc l)

-- in a sound table, the last of the rows under row r that are one level deeper is its last child
last_under : (u : Table) → Sound u → (r c : ℕ) → r < c → c ≤ r + at u.size r → c < u.count
    → at u.level r + 1 ≡ at u.level c
    → ((w : ℕ) → c < w → w ≤ r + at u.size r → at u.level r + 1 ≡ at u.level w → ⊥)
    → LastChild u.level u.count r c
last_under u s r c a b l e h = record {
  in_use = l;
  child = child_is (sound_shape u s) r c (omega arith) a b (sym e);
  last = λ w x y q. h w x (child_within (sound_shape u s) r w y q) (parent_less u.level w r q);
}

module _ (t : Table) (k : ℕ) (p : Table) (f : Fits (insertion k p) t) where
  -- a row of the piece, by the definitions
  after_planted : (j : ℕ) → j < p.count
      → Planted t (row_named (insertion k p) t) p (table_after (insertion k p) t) j
      ((done_of (insertion k p) t).first + j)
  unfolding inserted insert_done
  after_planted j l =
      let r : ℕ = row_named (insertion k p) t in
      let v : InUse p = ((insert_passes t r p).0 f.passes).piece.in_use in
      let u : InUse t = f.sound.in_use in
      let m : gap_of t (row_named (insertion k p) t) ≤ t.count = gap_fits t f.sound r f.found in
      let col : (ys xs : List ℕ) → p.count ≤ length ys → t.count ≤ length xs
      → at (opened (gap_of t r) t.count p.count ys xs) (gap_of t r + j) ≡ at ys j =
      λ ys xs a b. opened_new (gap_of t r) t.count p.count ys xs j l (omega arith) a in
      record {
        in_use = omega arith;
        key = col p.key t.key v.in_key u.in_key;
        size = col p.size _ v.in_size (rw length_changed u.in_size);
        level = col _ t.level (rw length-map v.in_level) u.in_level
            ∙ map_at (λ l. l + (at t.level r + 1)) p.level j (omega (arith, v.in_level));
        kind = col p.kind t.kind v.in_kind u.in_kind;
        name = col p.name t.name v.in_name u.in_name;
      }

  -- the parent's own row, by the definitions: its level stays, its size rises by the piece's count
  after_parent : (at (table_after (insertion k p) t).level (row_named (insertion k p) t)
      ≡ at t.level (row_named (insertion k p) t))
      × (at (table_after (insertion k p) t).size (row_named (insertion k p) t)
      ≡ at t.size (row_named (insertion k p) t) + p.count)
  unfolding inserted gap_of
  after_parent =
      let r : ℕ = row_named (insertion k p) t in
      let u : InUse t = f.sound.in_use in
      let m : gap_of t (row_named (insertion k p) t) ≤ t.count = gap_fits t f.sound r f.found in
      let q : ℕ → Bool = λ i. eqb i r || ancestor t.level i r in (
        opened_stays (gap_of t r) t.count p.count _ t.level r (omega arith) (omega (arith, u.in_level)),
        opened_stays (gap_of t r) t.count p.count p.size _ r (omega arith)
            (rw length_changed (omega (arith, u.in_size)))
            ∙ changed_at q (λ s. s + p.count) t.size r (omega (arith, u.in_size))
            ∙ ap (λ (b : Bool). cond b (at t.size r + p.count) (at t.size r))
            (either_left _ (eq-eqb r r refl)),
      )

  -- the piece's first row is the last child, by the definitions
  after_last : LastChild (table_after (insertion k p) t).level (done_of (insertion k p) t).count
      (row_named (insertion k p) t) (done_of (insertion k p) t).first
  unfolding inserted insert_done gap_of
  after_last =
      let r : ℕ = row_named (insertion k p) t in
      let g : ℕ = gap_of t r in
      let u : Table = table_after (insertion k p) t in
      let s : Sound p = ((insert_passes t r p).0 f.passes).piece in
      let m : gap_of t (row_named (insertion k p) t) ≤ t.count = gap_fits t f.sound r f.found in
      let (a, b) = after_parent in
      let some : 1 ≤ p.count = s.in_use.some in
      let raised : (w : ℕ) → g ≤ w → w < g + p.count
      → at u.level w ≡ at p.level (w - g) + (at t.level r + 1) =
      λ w x y. ap (at u.level) (let z : w ≡ g + (w - g) = omega arith in z)
      ∙ (after_planted (w - g) (omega arith)).level in
      last_under u (after_sound (insertion k p) t f) r g (omega arith) (omega arith) (omega arith)
      (omega (arith, raised g (omega arith) (omega arith), (s.rows (g - g) (omega arith)).levels.root (omega arith)))
      (λ w x y e. let l : 1 ≤ at p.level (w - g) =
      only_root p.level p.count ((insert_passes t r p).0 f.passes).one (w - g) (omega arith) (omega arith) in
      omega (arith, raised w (omega arith) (omega arith)))

-- each row of the piece stands from the first moved row on and holds what it held, its level raised
pub piece_there : (t : Table) (k : ℕ) (p : Table) (d : Done) → (insert_outcome t k p).answer ≡ Ok d
    → (j : ℕ) → j < p.count
    → Planted t (row_of t.key t.count k) p (insert_outcome t k p).table j (d.first + j)
piece_there t k p d e j l =
    accepted_has (λ (d : Done) (u : Table). Planted t (row_of t.key t.count k) p u j (d.first + j))
    (insertion k p) t d e (λ f. after_planted t k p f j l)

-- and is found there by its key
pub piece_found : (t : Table) (k : ℕ) (p : Table) (d : Done) → (insert_outcome t k p).answer ≡ Ok d
    → (j : ℕ) → j < p.count → find_outcome (insert_outcome t k p).table (at p.key j)
    ≡ found_at (insert_outcome t k p).table (d.first + j)
piece_found t k p d e j l =
    let u : Table = (insert_outcome t k p).table in
    let w : Planted t (row_of t.key t.count k) p u j (d.first + j) = piece_there t k p d e j l in
    ap (find_outcome u) (sym w.key) ∙ find_row u (edited_sound (insertion k p) t (d, e)) (d.first + j) w.in_use

-- the piece becomes the last child of the named row
pub last_child : (t : Table) (k : ℕ) (p : Table) (d : Done) → (insert_outcome t k p).answer ≡ Ok d
    → LastChild (insert_outcome t k p).table.level d.count (row_of t.key t.count k) d.first
last_child t k p d e =
    accepted_has (λ (d : Done) (u : Table). LastChild u.level d.count (row_of t.key t.count k) d.first)
    (insertion k p) t d e (after_last t k p)

-- so its first row is found under that row, one level deeper
pub piece_under : (t : Table) (k : ℕ) (p : Table) (d : Done) → (insert_outcome t k p).answer ≡ Ok d
    → find_outcome (insert_outcome t k p).table (at p.key 0)
    ≡ Ok (Below (record {
      row = d.first;
      level = at t.level (row_of t.key t.count k) + 1;
      parent = row_of t.key t.count k;
    }))
piece_under t k p d e =
    let r : ℕ = row_of t.key t.count k in
    let u : Table = (insert_outcome t k p).table in
    let (some, top) = accepted_has (λ (d : Done) (u : Table). (0 < p.count) × (at p.level 0 ≡ 0))
    (insertion k p) t d e (λ f. let s = ((insert_passes t r p).0 f.passes).piece in
    (s.in_use.some, (s.rows 0 s.in_use.some).levels.root refl)) in
    let first : d.first + 0 ≡ d.first = omega arith in
    let deep : at u.level d.first ≡ at t.level r + 1 =
    omega (arith, ap (at u.level) first, (piece_there t k p d e 0 some).level) in
    piece_found t k p d e 0 some ∙ ap (found_at u) first
    ∙ ap Ok (stands_under u.level d.first r (last_child t k p d e).child
    ∙ ap (λ (l : ℕ). Below (record { row = d.first; level = l; parent = r })) deep)

-- in steps: a last child is on the child axis of its parent's row, and has no following sibling in use
pub last_on_axis : (level : List ℕ) (n r c : ℕ) → LastChild level n r c
    → (on_axis 2 level r c ≡ true) × ((w : ℕ) → w < n → on_axis 10 level c w ≡ false)
unfolding on_axis siblings
last_on_axis level n r c h = (
  eq-eqb (parent level c) (suc r) h.child,
  λ w l. false_of _ (λ e.
      let (s, m) = both (siblings level c w) (ltb c w) e in
      h.last w (ltb-true c w m) l
      (eqb-true (parent level w) (parent level c) (both (ltb 0 (parent level c)) _ s).1 ∙ h.child)),
)

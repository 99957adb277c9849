-- The rows on the path of a link, ascending: none (`path_none`), those of a row are those of its parent and the row
-- itself (`path_snoc`), and how many they are (`path_above_count`, `path_own_count`). The loop that writes them from
-- the last one down: `path_next`, `path_done`, and that a link is left where a row is, `path_some`. Assumes nothing.
use Prim.Native.Nat.{ℕ, zero, suc, ◌+◌, ◌<◌, ◌≤◌}
use mathlib.Core.Path.{◌≡◌, refl, sym, ap, ◌∙◌}
use mathlib.Core.Bool.{false, false≢true}
use mathlib.Core.List.{List, [], ◌∷◌, ◌++◌}
use native.Mathlib.Omega.{arith}
use lib.ListN.{length, get_or, take, drop, set, length-append}
use lib.Seq.{take-suc, set_at, append_snoc, length-take-le}
use Rattle.tree.specs.Search.{gather}
use Rattle.tree.specs.Table.{at}
use Rattle.tree.specs.Tree.{parent, ancestor}
use Rattle.tree.specs.Rules.{Shape}
use Rattle.tree.specs.Outcome.{overwritten}
use Rattle.tree.proofs.SearchLaws.{gather_zero, gather_yes, gather_skip, gather_ext}
use Rattle.tree.proofs.AxisLaws.{same_test}
use Rattle.tree.proofs.LevelLaws.{ancestors_count}
use Rattle.scan.specs.declared.trees.Trees.{Trees}
use Rattle.scan.specs.OneRole.{Wrote}
use Rattle.lone.specs.Lone.{path_rows, PathIn}
use Rattle.ways.specs.Above.{on_path}
use Rattle.ways.proofs.ClimbLaws.{parent_low, ancestor_path, path_before, path_own, path_above}

-- ── the rows ──
module _ {size level : List ℕ} {n : ℕ} (s : Shape size level n) where
  -- no row from the link on
  path_cut : (link b : ℕ) → link ≤ n → link ≤ b
      → gather (on_path level link) b ≡ gather (on_path level link) link
  path_cut link b l m = gather_skip (on_path level link) link b m (λ w x y. same_test (on_path level link w) false
      (λ t. absurd (omega (arith, path_before s link w l t)))
      (λ t. absurd (false≢true t)))

  pub path_none : path_rows level n 0 ≡ []
  unfolding path_rows
  path_none = path_cut 0 n (omega arith) (omega arith) ∙ gather_zero (on_path level 0)

  module _ (v : ℕ) (l : v < n) where
    -- the parent's path ends before the row
    shorter : gather (on_path level (parent level v)) v ≡ gather (on_path level (parent level v)) n
    shorter =
        let p : parent level v ≤ v = parent_low level v in
        path_cut (parent level v) v (omega arith) p ∙ sym (path_cut (parent level v) n (omega arith) (omega arith))

    pub path_snoc : path_rows level n (suc v) ≡ path_rows level n (parent level v) ++ (v ∷ [])
    unfolding path_rows
    path_snoc =
        path_cut (suc v) n (omega arith) (omega arith)
        ∙ gather_yes (on_path level (suc v)) v (path_own s v l)
        ∙ ap (λ (xs : List ℕ). xs ++ (v ∷ []))
        (gather_ext (on_path level (suc v)) (on_path level (parent level v)) v (path_above s v l) ∙ shorter)

    -- a row has as many ancestors as its level says
    pub path_above_count : length (path_rows level n (parent level v)) ≡ at level v
    unfolding path_rows
    path_above_count =
        ap length (gather_ext (on_path level (parent level v)) (λ w. ancestor level w v) n
        (λ w m. sym (ancestor_path s v w l)))
        ∙ ancestors_count s v l

    pub path_own_count : length (path_rows level n (suc v)) ≡ at level v + 1
    path_own_count =
        ap length path_snoc
        ∙ length-append (path_rows level n (parent level v)) (v ∷ [])
        ∙ ap (λ (k : ℕ). k + 1) path_above_count

-- ── the loop ──
-- the k rows of the path from a are to be the first k results, and the rows below them are written
pub record PathLeft (trees : Trees) (link : ℕ) (old out : List ℕ) (a k : ℕ) : Type 0 where
  pub below : List ℕ
  pub low : a ≤ trees.count
  pub many : length (path_rows trees.level.now trees.count a) ≡ k
  pub split : path_rows trees.level.now trees.count link ≡ path_rows trees.level.now trees.count a ++ below
  pub holds : out ≡ take k old ++ (below ++ drop (length (path_rows trees.level.now trees.count link)) old)

-- a list of no elements
empty : (xs : List ℕ) → length xs ≡ 0 → xs ≡ []
empty [] e = refl
empty (x ∷ xs) e = absurd (omega arith)

module _ {trees : Trees} {up : List ℕ} {link m : ℕ} {old : List ℕ} (h : PathIn trees up link m old) where
  module _ {out : List ℕ} {a k : ℕ} (s : PathLeft trees link old out a k) where
    -- how many rows are left and written
    parts : length (path_rows trees.level.now trees.count link) ≡ k + length s.below
    parts =
        ap length s.split
        ∙ length-append (path_rows trees.level.now trees.count a) s.below
        ∙ ap (λ (j : ℕ). j + length s.below) s.many

    path_few : k ≤ length old
    path_few = omega (arith, parts, h.many, h.room)

    -- where a row is left, the link names one
    pub path_some : 0 < k → 0 < a
    path_some l = go a refl
      where
        go : (x : ℕ) → a ≡ x → 0 < x
        go zero e =
            let q : length (path_rows trees.level.now trees.count a) ≡ 0 =
            ap (λ (x : ℕ). length (path_rows trees.level.now trees.count x)) e ∙ ap length (path_none trees.shape) in
            absurd (omega (arith, s.many))
        go (suc x) e = omega arith

    module _ (j v : ℕ) (e : k ≡ suc j) (g : a ≡ suc v) where
      row_in : v < trees.count
      row_in = omega (arith, s.low)

      P-is : at up v ≡ parent trees.level.now v
      P-is = h.parents.parents v row_in

      -- the path from row v is that from its parent, as the column has it, and v
      last : path_rows trees.level.now trees.count a ≡ path_rows trees.level.now trees.count (at up v) ++ (v ∷ [])
      last =
          ap (path_rows trees.level.now trees.count) g
          ∙ path_snoc trees.shape v row_in
          ∙ ap (λ (x : ℕ). path_rows trees.level.now trees.count x ++ (v ∷ [])) (sym P-is)

      fewer : length (path_rows trees.level.now trees.count a)
          ≡ length (path_rows trees.level.now trees.count (at up v)) + 1
      fewer = ap length last ∙ length-append (path_rows trees.level.now trees.count (at up v)) (v ∷ [])

      pub path_next : PathLeft trees link old (set out j v) (at up v) j
      path_next =
          let rest : List ℕ = s.below ++ drop (length (path_rows trees.level.now trees.count link)) old in
          let l : j < length old = omega (arith, path_few) in
          record {
            below = v ∷ s.below;
            low = omega (arith, P-is, parent_low trees.level.now v, row_in);
            many = omega (arith, fewer, s.many);
            split =
                s.split
                ∙ ap (λ (xs : List ℕ). xs ++ s.below) last
                ∙ append_snoc (path_rows trees.level.now trees.count (at up v)) v s.below;
            holds =
                ap (λ (o : List ℕ). set o j v) s.holds
                ∙ ap (λ (i : ℕ). set (take i old ++ rest) j v) e
                ∙ ap (λ (o : List ℕ). set (o ++ rest) j v) (take-suc old j 0 l)
                ∙ ap (λ (o : List ℕ). set o j v) (append_snoc (take j old) (get_or old j 0) rest)
                ∙ set_at (take j old) (get_or old j 0) rest v j (length-take-le j old (omega arith));
          }

    pub path_done : k ≤ 0 → Wrote (path_rows trees.level.now trees.count link) old m out
    unfolding overwritten
    path_done l =
        let z : k ≡ 0 = omega arith in
        let b : path_rows trees.level.now trees.count link ≡ s.below =
        s.split ∙ ap (λ (xs : List ℕ). xs ++ s.below) (empty (path_rows trees.level.now trees.count a) (s.many ∙ z)) in
        let rest : List ℕ = drop (length (path_rows trees.level.now trees.count link)) old in
        record {
          many = sym h.many;
          holds =
              s.holds
              ∙ ap (λ (j : ℕ). take j old ++ (s.below ++ rest)) z
              ∙ ap (λ (xs : List ℕ). xs ++ rest) (sym b);
        }

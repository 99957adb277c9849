-- The tree of a row: RULES 02, E2. Each row has exactly one root: `root_is`, `is_root`, `has_root`, `one_root`. A tree
-- is a range of rows, its root's and the next size rows: `tree_range`; the trees stand side by side and fill the table:
-- `tree_next`, `tree_fits`. A row under another is in its tree, `under_tree`; no axis leaves the tree of its context,
-- `axis_tree`. By sizes, as tests that an engine computes: `same_tree_is`, `following_range`, `preceding_range`.
-- Assumes nothing.
use mathlib.Core.Path.{◌≡◌, refl, sym, ap, ◌∙◌}
use mathlib.Core.Logic.{⊎_elim, ◌↔◌}
use mathlib.Core.Bool.{Bool, true, false, cond, ◌&&◌, ◌||◌, true≢false}
use mathlib.Core.List.{List}
use Prim.Native.Nat.{ℕ, zero, suc, ◌+◌, ◌<◌, ◌≤◌}
use native.Mathlib.Nat.{le_of_suc-le-suc, eq-or-lt_of_le, not-suc-le-zero}
use native.Mathlib.Omega.{arith}
use borrow.Author.Tests.{eqb-true, eqb-false, eq-eqb, ltb-true, leb-true, le-leb}
use lib.Dec.{eqb, ltb, leb}
use Rattle.tree.specs.Search.{nearest}
use Rattle.tree.specs.Table.{at}
use Rattle.tree.specs.Rules.{Shape}
use Rattle.tree.specs.Tree.{parent, ancestor, siblings, root, same_tree}
use Rattle.tree.specs.Axis.{following, preceding, on_axis}
use Rattle.tree.specs.Kept.{drops}
use Rattle.tree.proofs.SearchLaws.{nearest_le, nearest_skip, nearest_in}
use Rattle.tree.proofs.TreeLaws.{Steps, Under, less?, ancestor_under, under_parent, run_under, under_run}
use Rattle.tree.proofs.SoundLaws.{both, both_of, either, shape_fits}
use Rattle.tree.proofs.AxisLaws.{same_test, following_is, preceding_is}

-- what fails is passed by the search for the nearest
pub nearest_past : (f : ℕ → Bool) (a b : ℕ) → a ≤ b → ((k : ℕ) → a ≤ k → k < b → f k ≡ false)
    → nearest f b ≡ nearest f a
unfolding nearest
nearest_past f a zero l h = ap (nearest f) (let z : 0 ≡ a = omega arith in z)
nearest_past f a (suc b) l h = ⊎_elim
    (λ (e : a ≡ suc b). ap (nearest f) (sym e))
    (λ (m : a < suc b). ap (λ (x : Bool). cond x (suc b) (nearest f b)) (h b (le_of_suc-le-suc m) (omega arith))
    ∙ nearest_past f a b (le_of_suc-le-suc m) (λ k x y. h k x (omega arith)))
    (eq-or-lt_of_le l)

-- r is the nearest row at or before w of level 0
pub record Root (level : List ℕ) (r w : ℕ) : Type 0 where
  pub earlier : r ≤ w
  pub top : at level r ≡ 0
  pub closest : (k : ℕ) → r < k → k ≤ w → at level k ≡ 0 → ⊥

module _ (level : List ℕ) where
  -- rows from the root's next on, up to w, are not of level 0
  root_skip : (w k : ℕ) → root level w ≤ k → k ≤ w → at level k ≡ 0 → ⊥
  unfolding root
  root_skip w k l m = eqb-false _ _ (nearest_skip (λ k. eqb (at level k) 0) (suc w) k l (omega arith))

  -- what the search gives is the root in 02's words
  pub is_root : (w r : ℕ) → root level w ≡ suc r → Root level r w
  unfolding root
  is_root w r e = record {
    earlier = omega (arith, nearest_le (λ k. eqb (at level k) 0) (suc w));
    top = eqb-true _ _ (nearest_in (λ k. eqb (at level k) 0) (suc w) r e);
    closest = λ k l m. root_skip w k (omega arith) m;
  }

  -- each row has at most one root
  pub one_root : (w r q : ℕ) → Root level r w → Root level q w → r ≡ q
  one_root w r q a b = ⊎_elim
      (λ (l : r < q). absurd (a.closest q l b.earlier b.top))
      (λ (l : q ≤ r). ⊎_elim (λ e. sym e) (λ (m : q < r). absurd (b.closest r m a.earlier a.top))
      (eq-or-lt_of_le l))
      (less? r q)

  -- and the root is what the search gives
  pub root_is : (w r : ℕ) → Root level r w → root level w ≡ suc r
  root_is w r h = go (root level w) refl
    where
      go : (q : ℕ) → root level w ≡ q → q ≡ suc r
      go zero e = absurd (root_skip w r (omega arith) h.earlier h.top)
      go (suc q) e = ap suc (one_root w q r (is_root w q e) h)

  -- where row 0 has level 0, each row has a root
  pub has_root : at level 0 ≡ 0 → (w : ℕ) → (r : ℕ) × Root level r w
  has_root z w = go (root level w) refl
    where
      go : (q : ℕ) → root level w ≡ q → (r : ℕ) × Root level r w
      go zero e = absurd (root_skip w 0 (omega arith) (omega arith) z)
      go (suc r) e = (r, is_root w r e)

  -- a row of level 0 is its own root
  pub own_root : (r : ℕ) → at level r ≡ 0 → root level r ≡ suc r
  own_root r e = root_is r r (record { earlier = omega arith; top = e; closest = λ k l m. absurd (omega arith) })

  -- a row under another is in its tree
  pub under_tree : (c w : ℕ) → Under level c w → root level w ≡ root level c
  unfolding root
  under_tree c w u =
      let a = u.after in
      nearest_past (λ k. eqb (at level k) 0) (suc c) (suc w) (omega arith)
      (λ k l m. deep k (eqb (at level k) 0) refl (u.deeper k l (omega arith)))
    where
      deep : (k : ℕ) (b : Bool) → eqb (at level k) 0 ≡ b → at level c < at level k → b ≡ false
      deep k true e h = let z : at level k ≡ 0 = eqb-true _ _ e in absurd (omega arith)
      deep k false e h = refl

  -- two rows of one root are in the same tree
  pub same_tree_lem : (c w : ℕ) → (same_tree level c w ≡ true) ↔ (root level c ≡ root level w)
  unfolding same_tree
  same_tree_lem c w = (eqb-true _ _, eq-eqb _ _)

module _ {size level : List ℕ} {n : ℕ} (s : Shape size level n) where
  -- 02: a tree is its root and the next size rows
  pub tree_range : (r w : ℕ) → r < n → w < n → at level r ≡ 0
      → (root level w ≡ suc r) ↔ ((r ≤ w) × (w ≤ r + at size r))
  tree_range r w m l z = (there, λ h. root_is level w r (back h.0 h.1))
    where
      there : root level w ≡ suc r → (r ≤ w) × (w ≤ r + at size r)
      there e =
          let h = is_root level w r e in
          (h.earlier, ⊎_elim (λ (q : r ≡ w). omega arith) (λ (q : r < w). run h q) (eq-or-lt_of_le h.earlier))
        where
          run : Root level r w → r < w → w ≤ r + at size r
          run h q =
              let i = s.sizes r m in
              omega (arith, under_run level n r s.in_level m w l (record { after = q; deeper = deep h }))
            where
              deep : Root level r w → (k : ℕ) → r < k → k ≤ w → at level r < at level k
              deep h k a b = ⊎_elim (λ (x : at level r < at level k). x)
                  (λ (x : at level k ≤ at level r). absurd (h.closest k a b (omega arith)))
                  (less? (at level r) (at level k))

      back : r ≤ w → w ≤ r + at size r → Root level r w
      back a b = record {
        earlier = a;
        top = z;
        closest = λ k x y e.
            let i = s.sizes r m in
            let u = run_under level n r s.in_level m k x (omega arith) in
            omega (arith, u.deeper k x (omega arith));
      }

  -- a tree ends in the rows in use
  pub tree_fits : (r : ℕ) → r < n → r + at size r < n
  tree_fits = shape_fits s

  -- the row after a tree is the next root
  pub tree_next : (r : ℕ) → r < n → at level r ≡ 0 → suc (r + at size r) < n → at level (suc (r + at size r)) ≡ 0
  tree_next r m z l =
      let h = has_root level ((s.levels 0 (omega arith)).root refl) (suc (r + at size r)) in
      go h.0 h.1
    where
      go : (q : ℕ) → Root level q (suc (r + at size r)) → at level (suc (r + at size r)) ≡ 0
      go q h = ⊎_elim (λ (e : q ≡ suc (r + at size r)). ap (at level) (sym e) ∙ h.top)
          (λ (x : q < suc (r + at size r)). absurd (past x)) (eq-or-lt_of_le h.earlier)
        where
          past : q < suc (r + at size r) → ⊥
          past x =
              let a = (tree_range q (suc (r + at size r)) (omega arith) l h.top).0
              (root_is level (suc (r + at size r)) q h) in
              ⊎_elim (λ (y : q < r). h.closest r y (omega arith) z)
              (λ (y : r ≤ q). ⊎_elim
              (λ (e : r ≡ q). let i = ap (at size) e in omega (arith, a.1))
              (λ (y : r < q).
              let i = s.sizes r m in
              let u = run_under level n r s.in_level m q y (omega arith) in
              let t = h.top in
              omega (arith, u.deeper q y (omega arith)))
              (eq-or-lt_of_le y))
              (less? q r)

  -- a root's subtree ends before the next root
  pub tree_stops : (r j : ℕ) → r < n → j < n → at level j ≡ 0 → r < j → r + at size r < j
  tree_stops r j m l z h = ⊎_elim (λ (x : r + at size r < j). x)
      (λ (x : j ≤ r + at size r).
      let i = s.sizes r m in
      let u = run_under level n r s.in_level m j h (omega arith) in
      absurd (omega (arith, u.deeper j h (omega arith))))
      (less? (r + at size r) j)

  -- 02: whether two rows are in one tree, by the root's size
  pub same_tree_is : (c w r : ℕ) → w < n → c < n → root level c ≡ suc r
      → same_tree level c w ≡ (leb r w && leb w (r + at size r))
  same_tree_is c w r l m e =
      let h = is_root level c r e in
      let a = h.earlier in
      let d = tree_range r w (omega arith) l h.top in
      same_test _ _
      (λ q. let p = d.0 (sym ((same_tree_lem level c w).0 q) ∙ e) in both_of (le-leb r w p.0) (le-leb w _ p.1))
      (λ q. let p = both (leb r w) _ q in
      (same_tree_lem level c w).1 (e ∙ sym (d.1 (leb-true r w p.0, leb-true w _ p.1))))

  -- the axis following: the rows after c and its descendants, up to the end of its tree
  pub following_range : (c w r : ℕ) → c < n → w < n → root level c ≡ suc r
      → following level c w ≡ (ltb (c + at size c) w && leb w (r + at size r))
  following_range c w r m l e =
      let i = (is_root level c r e).earlier in
      following_is s c w m l ∙ ap (λ (b : Bool). b && ltb (c + at size c) w) (same_tree_is c w r l m e)
      ∙ same_test _ _
      (λ q. let a = both _ (ltb (c + at size c) w) q in
      both_of a.1 (both (leb r w) _ a.0).1)
      (λ q. let a = both (ltb (c + at size c) w) _ q in
      let x : c + at size c < w = ltb-true _ _ a.0 in
      both_of (both_of (le-leb r w (omega arith)) a.1) a.0)

  -- the axis preceding: the rows from its root on whose subtree ends before c
  pub preceding_range : (c w r : ℕ) → c < n → w < n → root level c ≡ suc r
      → preceding level c w ≡ (leb r w && ltb (w + at size w) c)
  preceding_range c w r m l e =
      let h = is_root level c r e in
      let i = h.earlier in
      let y = (tree_range r c (omega arith) m h.top).0 e in
      preceding_is s c w m l ∙ ap (λ (b : Bool). b && ltb (w + at size w) c) (same_tree_is c w r l m e)
      ∙ same_test _ _
      (λ q. let a = both _ (ltb (w + at size w) c) q in
      both_of (both (leb r w) _ a.0).0 a.1)
      (λ q. let a = both (leb r w) _ q in
      let x : w + at size w < c = ltb-true _ _ a.1 in
      both_of (both_of a.0 (le-leb w _ (omega (arith, y.1)))) a.1)

-- ── no axis leaves the tree of its context ──
-- one of two tests passes
pick : {P : Type 0} (b x y : Bool) → (x ≡ true → P) → (y ≡ true → P) → cond b x y ≡ true → P
pick true x y f g e = f e
pick false x y f g e = g e

never : {P : Type 0} → false ≡ true → P
never e = let z : ◌≡◌ {A = Bool} true false = sym e in absurd (true≢false z)

module _ (level : List ℕ) (n : ℕ) (steps : Steps level n) (c w : ℕ) (m : c < n) (l : w < n) where
  -- the parent of w, or any ancestor
  below : ancestor level c w ≡ true → same_tree level c w ≡ true
  below e = (same_tree_lem level c w).1 (sym (under_tree level c w ((ancestor_under level n steps c w l).0 e)))

  above : ancestor level w c ≡ true → same_tree level c w ≡ true
  above e = (same_tree_lem level c w).1 (under_tree level w c ((ancestor_under level n steps w c m).0 e))

  own : eqb w c ≡ true → same_tree level c w ≡ true
  own e = (same_tree_lem level c w).1 (ap (root level) (sym (eqb-true w c e)))

  -- rows of one parent
  beside : siblings level c w ≡ true → same_tree level c w ≡ true
  unfolding siblings
  beside e =
      let a = both (ltb 0 (parent level c)) _ e in
      go (parent level c) refl (ltb-true 0 (parent level c) a.0) (eqb-true _ _ a.1)
    where
      go : (q : ℕ) → parent level c ≡ q → 0 < q → parent level w ≡ parent level c → same_tree level c w ≡ true
      go zero p h e = absurd (not-suc-le-zero h)
      go (suc q) p h e =
          (same_tree_lem level c w).1 (under_tree level q c (under_parent level n steps c q m p)
          ∙ sym (under_tree level q w (under_parent level n steps w q l (e ∙ p))))

  -- 02: no axis leaves the tree of its context
  pub axis_tree : (axis : ℕ) → on_axis axis level c w ≡ true → same_tree level c w ≡ true
  unfolding on_axis following preceding
  axis_tree axis =
      pick (eqb axis 1) _ _ own
      (pick (eqb axis 2) _ _ (λ e. (same_tree_lem level c w).1
      (sym (under_tree level c w (under_parent level n steps w c l (eqb-true _ _ e)))))
      (pick (eqb axis 3) _ _ below
      (pick (eqb axis 4) _ _ (λ e. ⊎_elim own below (either (eqb w c) _ e))
      (pick (eqb axis 5) _ _ (λ e. (same_tree_lem level c w).1
      (under_tree level w c (under_parent level n steps c w m (eqb-true _ _ e))))
      (pick (eqb axis 6) _ _ above
      (pick (eqb axis 7) _ _ (λ e. ⊎_elim own above (either (eqb w c) _ e))
      (pick (eqb axis 8) _ _ (λ e. (both (same_tree level c w) _ e).0)
      (pick (eqb axis 9) _ _ (λ e. (both (same_tree level c w) _ e).0)
      (pick (eqb axis 10) _ _ (λ e. beside (both (siblings level c w) _ e).0)
      (pick (eqb axis 11) _ _ (λ e. beside (both (siblings level c w) _ e).0)
      never))))))))))

  -- nor does a redundant pair hang on another tree
  pub drops_tree : (axis : ℕ) → drops axis level c w ≡ true → same_tree level c w ≡ true
  unfolding drops
  drops_tree axis =
      pick (eqb axis 3 || eqb axis 4) _ _ above
      (pick (eqb axis 6 || eqb axis 7) _ _ below
      (pick (eqb axis 8 || eqb axis 9) _ _ (λ e. (both (same_tree level c w) _ e).0) never))

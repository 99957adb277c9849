-- What finding a key answers: RULES 01, "Finding and editing by key". Refusals: `given_refused`, of any check;
-- `table_numbers`, the table's are 1 and 2; `key_refused`, an edit's key gets 9 exactly if no row in use has it.
-- Finding: `find_none`, refusal 9 exactly if the table is sound and no row in use has the key; `find_zero`, so always
-- for key 0; `find_row`, a row is found for its key; `find_stands`, what is found is where a row with the key stands;
-- `find_found`, exactly a row that has the key is found. Where it is and under what, RULES 02, E3: `find_only_row`,
-- `find_root`, `find_under`, `find_level`; the call that is saved, `find_parent`, `find_axis`, `root_axis`. Assumes
-- nothing.
use mathlib.Core.Path.{◌≡◌, refl, sym, ap, subst, ◌∙◌}
use mathlib.Core.Logic.{◌⊎◌, inl, inr, ⊎_elim, ◌↔◌}
use mathlib.Core.Bool.{Bool, true, false, cond, not}
use Prim.Native.Nat.{ℕ, suc, ◌+◌, ◌<◌}
use native.Mathlib.Omega.{arith}
use borrow.Author.Tests.{ltb-true, lt-ltb, eqb-true, eq-eqb, ne_eqb, not-true}
use lib.Dec.{ltb, eqb}
use Rattle.tree.specs.Table.{Table, at}
use Rattle.tree.specs.Tree.{parent}
use Rattle.tree.specs.Axis.{on_axis}
use Rattle.tree.specs.Rules.{Sound}
use Rattle.tree.specs.EditRules.{NoKey}
use Rattle.tree.specs.Refusal.{given, next, table_check, key_check, Checked}
use Rattle.tree.specs.Outcome.{standing, row_there, located, find_outcome, found_at}
use Rattle.tree.specs.declared.Child.{Child}
use Rattle.tree.specs.declared.Located.{Located}
use Rattle.tree.specs.declared.Located.TheVariants.{Root, Under}
use Rattle.tree.proofs.TreeLaws.{Parent, is_parent, parent_is, parent_none}
use Rattle.tree.proofs.SoundLaws.{table_passes, next_first, find_at, sound_shape}
use Rattle.tree.proofs.AxisLaws.{axis_parent}
use Rattle.tree.proofs.AcceptLaws.{no_key}
use Rattle.tree.proofs.EditLaws.{row_in, row_key}
use Rattle.tree.proofs.StandingLaws.{stands_row, stands_root, stands_under, root_stands, under_stands}
use Rattle.tree.proofs.StandingLaws.{root_level}
use Rattle.std.specs.Prelude.{Ok, Err}
use Rattle.tree.specs.declared.Refusal.TheVariants.{UnknownKey}
use Rattle.tree.specs.declared.Refusal.{Refusal}
use Rattle.tree.specs.Number.{number}

-- ── refusals ──
-- a check refuses exactly for its reason
pub given_refused : (b : Bool) (why other : Refusal) → (given b why ≡ Err other) ↔ ((b ≡ true) × (why ≡ other))
unfolding given
given_refused true why other = (λ e. (refl, cc), λ h. ap Err h.1)
given_refused false why other = (
  λ e. let z : ◌≡◌ {A = ℕ} 0 1 = cc in absurd (omega arith),
  λ h. let z : ◌≡◌ {A = ℕ} 0 1 = cc h.0 in absurd (omega arith),
)

-- the table is refused with 1 or 2
pub table_numbers : (t : Table) (why : Refusal) → table_check t ≡ Err why → (number why ≡ 1) ⊎ (number why ≡ 2)
unfolding table_check
table_numbers t why e =
    ⊎_elim (λ h. inl (ap number (sym ((given_refused _ _ _).0 h).1)))
    (λ h. inr (ap number (sym ((given_refused _ _ _).0 h.1).1))) ((next_first _ _ why).0 e)

-- refusal 9, exactly if no row in use has the key
pub key_refused : (t : Table) (k : ℕ) → (key_check t k ≡ Err UnknownKey) ↔ NoKey t k
unfolding key_check
key_refused t k = (
  λ e. (no_key t k).0 (not-true _ ((given_refused _ _ _).0 e).0),
  λ h. (given_refused _ _ _).1 (ap not ((no_key t k).1 h), refl),
)

-- ── finding ──
module _ (t : Table) where
  -- the check of the table comes first
  find_sound : Sound t → (k : ℕ) → find_outcome t k ≡ located t.key t.level t.count k
  unfolding find_outcome next
  find_sound s k = rw ((table_passes t).1 s)

  -- no row in use has the key
  pub find_none : (k : ℕ) → (find_outcome t k ≡ Err UnknownKey) ↔ (Sound t × NoKey t k)
  unfolding find_outcome next located
  find_none k = (go (table_check t) refl, λ h. find_sound h.0 k ∙ rw ((no_key t k).1 h.1))
    where
      none : (b : Bool) → ltb (row_in t k) t.count ≡ b
          → cond b (found_at t (row_in t k)) (Err UnknownKey) ≡ Err UnknownKey
          → NoKey t k
      none true p e = let z : ◌≡◌ {A = ℕ} 0 1 = cc in absurd (omega arith)
      none false p e = (no_key t k).0 p

      go : (c : Checked) → table_check t ≡ c → next c (located t.key t.level t.count k) ≡ Err UnknownKey
          → Sound t × NoKey t k
      go (Ok u) p e = ((table_passes t).0 p, none _ refl e)
      go (Err why) p e =
          let y : why ≡ UnknownKey = cc in
          let z : number why ≡ 9 = ap number y in
          absurd (⊎_elim (λ h. omega arith) (λ h. omega arith) (table_numbers t why p))

  -- 01: so always for key 0
  pub find_zero : Sound t → find_outcome t 0 ≡ Err UnknownKey
  find_zero s = (find_none 0).1 (s, λ j l. (s.rows j l).keys.nonzero)

  -- a row is found for its key
  pub find_row : Sound t → (i : ℕ) → i < t.count → find_outcome t (at t.key i) ≡ found_at t i
  unfolding located
  find_row s i l = find_sound s _ ∙ rw (find_at t s i l, lt-ltb i t.count l)

  -- what is found is a row of a sound table that has the key, and where it stands
  pub find_stands : (k : ℕ) (f : Located) → find_outcome t k ≡ Ok f
      → Sound t × (row_there f < t.count) × (at t.key (row_there f) ≡ k) × (f ≡ standing t.level (row_there f))
  unfolding find_outcome next located
  find_stands k f = go (table_check t) refl
    where
      row : ℕ
      row = row_in t k

      there : (b : Bool) → ltb row t.count ≡ b → cond b (found_at t row) (Err UnknownKey) ≡ Ok f
          → (row_there f < t.count) × (at t.key (row_there f) ≡ k) × (f ≡ standing t.level (row_there f))
      there true p e =
          let l : row_in t k < t.count = ltb-true _ _ p in
          let z : standing t.level (row_in t k) ≡ f = cc in
          let q : row_in t k ≡ row_there f = sym (stands_row t.level row) ∙ ap row_there z in
          subst (λ (j : ℕ). (j < t.count) × (at t.key j ≡ k) × (f ≡ standing t.level j)) q
          (l, row_key t k l, sym z)
      there false p e = let z : ◌≡◌ {A = ℕ} 0 1 = cc in absurd (omega arith)

      go : (c : Checked) → table_check t ≡ c → next c (located t.key t.level t.count k) ≡ Ok f
          → Sound t × (row_there f < t.count) × (at t.key (row_there f) ≡ k) × (f ≡ standing t.level (row_there f))
      go (Ok u) p e = let h = there _ refl e in ((table_passes t).0 p, h.0, h.1, h.2)
      go (Err why) p e = let z : ◌≡◌ {A = ℕ} 0 1 = cc in absurd (omega arith)

  -- a row is found exactly if the table is sound and the row has the key
  pub find_found : (k i : ℕ) → (find_outcome t k ≡ found_at t i) ↔ (Sound t × (i < t.count) × (at t.key i ≡ k))
  find_found k i = (
    λ e. let (s, m, q, z) = find_stands k _ e in
        let here = stands_row t.level i in
        (s, subst (λ (j : ℕ). j < t.count) here m, subst (λ (j : ℕ). at t.key j ≡ k) here q),
    λ h. ap (find_outcome t) (sym h.2) ∙ find_row h.0 i h.1,
  )

  -- ── where it is, and under what: RULES 02, E3 ──
  -- the row is the only one with the key
  pub find_only_row : (k : ℕ) (f : Located) → find_outcome t k ≡ Ok f
      → (j : ℕ) → j < t.count → at t.key j ≡ k → j ≡ row_there f
  find_only_row k f e j l h =
      let (s, m, q, z) = find_stands k f e in
      sym (find_at t s j l) ∙ ap (row_in t) (h ∙ sym q) ∙ find_at t s (row_there f) m

  -- a root is answered exactly where the row of the key has level 0
  pub find_root : (k i : ℕ) → (find_outcome t k ≡ Ok (Root i))
      ↔ (Sound t × (i < t.count) × (at t.key i ≡ k) × (at t.level i ≡ 0))
  find_root k i = (
    λ e. let (s, m, q, z) = find_stands k (Root i) e in
        (s, m, q, (root_level (sound_shape t s) i m).0 (root_stands t.level i i (sym z)).1),
    λ h. let (s, m, q, z) = h in
        (find_found k i).1 (s, m, q) ∙ ap Ok (stands_root t.level i ((root_level (sound_shape t s) i m).1 z)),
  )

  -- any other row with its level and its parent: the nearest earlier row whose level is one less
  pub find_under : (k : ℕ) (c : Child) → (find_outcome t k ≡ Ok (Under c))
      ↔ (Sound t × (c.row < t.count) × (at t.key c.row ≡ k) × (at t.level c.row ≡ c.level)
      × Parent t.level c.parent c.row)
  find_under k c = (
    λ e. let (s, m, q, z) = find_stands k (Under c) e in
        let (x, y, p) = under_stands t.level c.row c (sym z) in
        (s, m, q, y, is_parent t.level c.row c.parent p),
    λ h. let (s, m, q, y, p) = h in
        (find_found k c.row).1 (s, m, q)
        ∙ ap Ok (stands_under t.level c.row c.parent (parent_is t.level c.row c.parent p))
        ∙ ap (λ (l : ℕ). Ok (Under (record { row = c.row; level = l; parent = c.parent }))) y,
  )

  -- the parent's level is one less than the level answered
  pub find_level : (k : ℕ) (c : Child) → find_outcome t k ≡ Ok (Under c) → at t.level c.parent + 1 ≡ c.level
  find_level k c e = let (s, m, q, y, p) = (find_under k c).0 e in p.less ∙ y

  -- the parent is a row in use, and its own key finds it: the second call that is saved
  pub find_parent : (k : ℕ) (c : Child) → find_outcome t k ≡ Ok (Under c)
      → (c.parent < t.count) × (find_outcome t (at t.key c.parent) ≡ found_at t c.parent)
  find_parent k c e =
      let (s, m, q, y, p) = (find_under k c).0 e in
      let l : c.parent < t.count = omega (arith, p.earlier) in
      (l, find_row s c.parent l)

  -- and the one row that a step along the axis parent lists
  pub find_axis : (k : ℕ) (c : Child) → find_outcome t k ≡ Ok (Under c)
      → (w : ℕ) → (on_axis 5 t.level c.row w ≡ true) ↔ (w ≡ c.parent)
  find_axis k c e w =
      let (s, m, q, y, p) = (find_under k c).0 e in
      let z : parent t.level c.row ≡ suc c.parent = parent_is t.level c.row c.parent p in
      let a = axis_parent t.level c.row w in (
        λ h. let g : parent t.level c.row ≡ suc w = eqb-true _ _ (sym a ∙ h) in omega arith,
        λ h. a ∙ eq-eqb _ _ (z ∙ ap suc (sym h)),
      )

  -- from a root it lists none
  pub root_axis : (k i : ℕ) → find_outcome t k ≡ Ok (Root i) → (w : ℕ) → on_axis 5 t.level i w ≡ false
  root_axis k i e w =
      let (s, m, q, y) = (find_root k i).0 e in
      axis_parent t.level i w ∙ ap (λ (x : ℕ). eqb x (suc w)) (parent_none t.level i y)
      ∙ ne_eqb 0 (suc w) (λ z. omega arith)

-- The node test as a wanted kind and a wanted name: `fits_any`, `fits_kind` are the test where less is wanted;
-- `fits_part..` is the test at a row of a part of the columns; `fits_passes`: it is 01's test. Assumes nothing.
use mathlib.Core.Path.{◌≡◌, sym, ap, ap₂, ◌∙◌}
use mathlib.Core.Logic.{◌⊎◌, inl, inr, ⊎_elim}
use mathlib.Core.Bool.{Bool, true, cond, not, ◌&&◌, ◌||◌, and-true}
use mathlib.Core.List.{List}
use Prim.Native.Nat.{ℕ, zero, suc, ◌+◌, ◌<◌, ◌≤◌}
use native.Mathlib.Nat.{eq-or-lt_of_le, le_of_suc-le-suc}
use native.Mathlib.Omega.{arith}
use borrow.Author.Tests.{leb-true, not-true}
use lib.Dec.{eqb, leb}
use lib.ListN.{take, drop}
use lib.Seq.{get_or-take, get_or-drop}
use Rattle.std.specs.Prelude.{Option, None, Some}
use Rattle.tree.specs.Table.{at}
use Rattle.tree.specs.Test.{test_ok, passes}
use Rattle.tree.specs.declared.Ask.{Ask}
use Rattle.tree.proofs.SoundLaws.{both}
use Rattle.scan.specs.Want.{Want, wanted_kind, wanted_name, want_of, as_wanted, fits}

-- ── a code of an axis ──
-- one of two neighbours
pub one_of_two : (t k : ℕ) → k ≤ t → t < suc (suc k) → (t ≡ k) ⊎ (t ≡ suc k)
one_of_two t k a b = ⊎_elim (λ e. inr e) (λ (l : t < suc k). inl (omega arith)) (eq-or-lt_of_le (le_of_suc-le-suc b))

-- ── the test of a row ──
module _ (want : Want) (kind name : List ℕ) (w : ℕ) where
  -- any kind and any name are right
  pub fits_any : want.kind ≡ None → want.name ≡ None → true ≡ fits want kind name w
  unfolding fits
  fits_any k z = sym (ap₂ (λ (a b : Option ℕ). as_wanted a (at kind w) && as_wanted b (at name w)) k z)

  -- any name is right
  pub fits_kind : {x : ℕ} → want.kind ≡ Some x → want.name ≡ None → eqb (at kind w) x ≡ fits want kind name w
  unfolding fits
  fits_kind {x} k z =
      sym (ap₂ (λ (a b : Option ℕ). as_wanted a (at kind w) && as_wanted b (at name w)) k z
      ∙ and-true (eqb (at kind w) x))

-- ── the test at a row of a part of the columns ──
-- what a part that starts at a row holds
part_at : (column : List ℕ) (from k i : ℕ) → i < k → at (take k (drop from column)) i ≡ at column (from + i)
part_at column from k i l = get_or-take k (drop from column) i 0 l ∙ get_or-drop from column i 0

module _ (want : Want) (kind name : List ℕ) (from k i : ℕ) (l : i < k) where
  pub fits_part : fits want (take k (drop from kind)) (take k (drop from name)) i ≡ fits want kind name (from + i)
  unfolding fits
  fits_part =
      ap₂ (λ (a b : ℕ). as_wanted want.kind a && as_wanted want.name b)
      (part_at kind from k i l) (part_at name from k i l)

  pub fits_part_kind : {x : ℕ} → want.kind ≡ Some x → want.name ≡ None
      → eqb (at (take k (drop from kind)) i) x ≡ fits want kind name (from + i)
  fits_part_kind {x} h z =
      ap (λ (a : ℕ). eqb a x) (part_at kind from k i l) ∙ fits_kind want kind name (from + i) h z

-- ── 01's test ──
-- without a name to ask for, the first half decides
unnamed : (m own : ℕ) (a : Bool) → eqb m 0 ≡ true → (a && as_wanted (wanted_name m) own) ≡ a
unnamed m own a e = ap (λ (z : Bool). a && as_wanted (cond z None (Some m)) own) e ∙ and-true a

-- with one, the halves decide
named : (m own : ℕ) (a : Bool) → not (eqb m 0) ≡ true → (a && as_wanted (wanted_name m) own) ≡ (a && eqb own m)
named m own a e = ap (λ (z : Bool). a && as_wanted (cond z None (Some m)) own) (not-true (eqb m 0) e)

-- test codes end at 7
code_low : (test m : ℕ) → test_ok test m ≡ true → test ≤ 7
unfolding test_ok
code_low test m e =
    leb-true test 7 (both (leb test 7) (cond (eqb test 2 || eqb test 6) (not (eqb m 0)) (eqb m 0)) e).0

-- code by code
fits_code : (test m : ℕ) (kind name : List ℕ) (w : ℕ) → test_ok test m ≡ true
    → fits (record { kind = wanted_kind test; name = wanted_name m }) kind name w ≡ passes test m (at kind w) (at name w)
unfolding test_ok wanted_kind fits passes
fits_code zero m kind name w e = unnamed m (at name w) true e
fits_code (suc zero) m kind name w e = unnamed m (at name w) _ e
fits_code (suc (suc zero)) m kind name w e = named m (at name w) (eqb (at kind w) 1) e
fits_code (suc (suc (suc zero))) m kind name w e = unnamed m (at name w) _ e
fits_code (suc (suc (suc (suc zero)))) m kind name w e = unnamed m (at name w) _ e
fits_code (suc (suc (suc (suc (suc zero))))) m kind name w e = unnamed m (at name w) _ e
fits_code (suc (suc (suc (suc (suc (suc zero)))))) m kind name w e =
    named m (at name w) (eqb (at kind w) 4) e
fits_code (suc (suc (suc (suc (suc (suc (suc zero))))))) m kind name w e = unnamed m (at name w) _ e
fits_code (suc (suc (suc (suc (suc (suc (suc (suc t)))))))) m kind name w e =
    absurd (omega (arith, code_low (suc (suc (suc (suc (suc (suc (suc (suc t)))))))) m e))

-- a row fits what a test asks for exactly if it passes the test
pub fits_passes : (ask : Ask) (kind name : List ℕ) (w : ℕ) → test_ok ask.test ask.name ≡ true
    → fits (want_of ask) kind name w ≡ passes ask.test ask.name (at kind w) (at name w)
fits_passes ask = fits_code ask.test ask.name

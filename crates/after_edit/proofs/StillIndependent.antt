-- Of three edits that are pairwise independent on a table, where one is done the other two are still independent on
-- the table that it leaves, if they bring no rows: `still_independent`. For rows that stay keep their keys and levels,
-- and the one is above the other exactly if it was: `ancestor_again`. Assumes nothing.
use mathlib.Core.Path.{◌≡◌, refl, sym, ap, ap₂, subst, ◌∙◌}
use mathlib.Core.Bool.{Bool, false, ◌||◌}
use Prim.Native.Nat.{ℕ, zero, suc, ◌<◌, ◌≤◌}
use native.Mathlib.Decide.{ℕ_discrete}
use native.Mathlib.Omega.{arith}
use borrow.Author.Tests.{eq-eqb, ne_eqb}
use lib.Dec.{eqb}
use Rattle.tree.specs.Table.{Table, at, shortest}
use Rattle.tree.specs.Sound.{row_of}
use Rattle.tree.specs.Rules.{InUse, Sound}
use Rattle.tree.specs.Tree.{parent, ancestor}
use Rattle.tree.specs.declared.Done.{Done}
use Rattle.tree.proofs.TreeLaws.{parent_below}
use Rattle.tree.proofs.SoundLaws.{sound_shape, find_at}
use Rattle.tree.proofs.AcceptLaws.{neither_of}
use Rattle.tree.proofs.LevelLaws.{ancestor_step, has_parent, root_alone}
use Rattle.tree.proofs.EditLaws.{row_key}
use Rattle.after_edit.specs.Act.{Act, insertion, deletion, renaming, outcome, key_of, row_named, brings}
use Rattle.after_edit.specs.Independent.{Independent, DeletesRoot}
use Rattle.after_edit.specs.Survives.{goes, Survives}
use Rattle.after_edit.proofs.ActLaws.{Fits, accepted_fits}
use Rattle.after_edit.proofs.FoundAgain.{edited_sound, row_again}
use Rattle.after_edit.proofs.UnderAgain.{parent_stays, stays_under}
use Rattle.after_edit.proofs.EitherOrder.{either_order}
use Rattle.std.specs.Prelude.{Ok}

-- the row of an edit that is independent of a stays where a is done
named_stays : (a b : Act) (t : Table) → Independent a b t → goes a t (row_named b t) ≡ false
named_stays (insertion k p) b t i = refl
named_stays (deletion k) b t i = neither_of (ne_eqb _ _ (λ e. i.rows_differ (sym e))) i.a_not_above
named_stays (renaming k m) b t i = refl

-- ── rows after an edit ──
module _ (a : Act) (t : Table) (d : Done) (e : (outcome a t).answer ≡ Ok d) where
  -- both tables are sound
  sound_before : Sound t
  sound_before = (accepted_fits a t (d, e)).sound

  sound_after : Sound (outcome a t).table
  sound_after = edited_sound a t (d, e)

  -- the key of a row that stays is found where the row stands
  lands : (i w : ℕ) → Survives a d t (outcome a t).table i w
      → row_of (outcome a t).table.key (outcome a t).table.count (at t.key i) ≡ w
  lands i w x =
      let u : Table = (outcome a t).table in
      ap (row_of u.key u.count) (sym x.key) ∙ find_at u sound_after w x.in_use

  -- two rows stand at one row exactly if they are one row
  same_row : (i p w v : ℕ) → i < t.count → p < t.count → Survives a d t (outcome a t).table i w
      → Survives a d t (outcome a t).table p v → eqb w v ≡ eqb i p
  same_row i p w v l m x y = elim (ℕ_discrete i p) [
    | yes q ↦
        let u : Table = (outcome a t).table in
        let z : w ≡ v =
        sym (lands i w x) ∙ ap (λ (r : ℕ). row_of u.key u.count (at t.key r)) q ∙ lands p v y in
        eq-eqb w v z ∙ sym (eq-eqb i p q)
    | no q ↦
        ne_eqb w v (λ z.
        let k : at t.key i ≡ at t.key p = sym x.key ∙ ap (at (outcome a t).table.key) z ∙ y.key in
        q (sym (find_at t sound_before i l) ∙ ap (row_of t.key t.count) k ∙ find_at t sound_before p m))
        ∙ sym (ne_eqb i p q)
  ]

  -- a row that stays is above another exactly if it was, where that is so of the other's parent
  above_step : (i j p w v o : ℕ) → i < t.count → j < t.count → parent t.level j ≡ suc p → goes a t j ≡ false
      → Survives a d t (outcome a t).table i w → Survives a d t (outcome a t).table j v
      → Survives a d t (outcome a t).table p o
      → ancestor (outcome a t).table.level w o ≡ ancestor t.level i p
      → ancestor (outcome a t).table.level w v ≡ ancestor t.level i j
  above_step i j p w v o l m q g x y z h =
      let c : p < j = parent_below t.level j p q in
      ancestor_step (sound_shape (outcome a t).table sound_after) w v o y.in_use
      (stays_under a t d e j p m q g v o y z)
      ∙ ap₂ (λ (f k : Bool). f || k) (same_row i p w o l (omega arith) x z) h
      ∙ sym (ancestor_step (sound_shape t sound_before) i j p m q)

  -- so it is for each row j below n
  above_again : (n i j w v : ℕ) → j < n → i < t.count → j < t.count → goes a t j ≡ false
      → Survives a d t (outcome a t).table i w → Survives a d t (outcome a t).table j v
      → ancestor (outcome a t).table.level w v ≡ ancestor t.level i j
  above_again zero i j w v b l m g x y = absurd (omega arith)
  above_again (suc n) i j w v b l m g x y = elim (ℕ_discrete (at t.level j) 0) [
    | yes z ↦
        root_alone (sound_shape (outcome a t).table sound_after) v y.in_use (y.level ∙ z) w
        ∙ sym (root_alone (sound_shape t sound_before) j m z i)
    | no z ↦
        let (p, q) = has_parent (sound_shape t sound_before) j m (omega arith) in
        let c : p < j = parent_below t.level j p q in
        let h : goes a t p ≡ false = parent_stays a t sound_before j p m q g in
        let (o, r) = row_again a t d e p (omega arith) h in
        above_step i j p w v o l m q g x y r (above_again n i p w o (omega arith) l (omega arith) h x r)
  ]

  -- of rows that stay, the one is above the other exactly if it was
  pub ancestor_again : (i j w v : ℕ) → i < t.count → j < t.count → goes a t j ≡ false
      → Survives a d t (outcome a t).table i w → Survives a d t (outcome a t).table j v
      → ancestor (outcome a t).table.level w v ≡ ancestor t.level i j
  ancestor_again i j w v = above_again (suc j) i j w v (omega arith)

  -- the row that an edit independent of a names stands at the row that it names afterwards
  named_again : (b : Act) → Independent a b t → Survives a d t (outcome a t).table (row_named b t)
      (row_named b (outcome a t).table)
  named_again b i =
      let u : Table = (outcome a t).table in
      let l : row_named b t < t.count = (accepted_fits b t i.accepted_b).found in
      let (w, x) = row_again a t d e (row_named b t) l (named_stays a b t i) in
      let z : row_named b u ≡ w =
      ap (row_of u.key u.count) (sym (row_key t (key_of b) l)) ∙ lands (row_named b t) w x in
      subst (Survives a d t u (row_named b t)) (sym z) x

-- ── three edits ──
-- a deletion that names a root afterwards named one before
was_root : (b : Act) (t u : Table) → at u.level (row_named b u) ≡ at t.level (row_named b t) → DeletesRoot b u
    → DeletesRoot b t
was_root (insertion k p) t u e r = r
was_root (deletion k) t u e r = sym e ∙ r
was_root (renaming k m) t u e r = r

-- a sound table has room for no rows more
room : (t : Table) → Sound t → (t.count ≤ 4096) × (t.count ≤ shortest t)
unfolding shortest
room t s = let u : InUse t = s.in_use in (omega arith, omega arith)

-- where one of three is done, the other two are still independent
pub still_independent : (a b c : Act) (t : Table) → brings b ≡ 0 → brings c ≡ 0 → Independent a b t → Independent a c t
    → Independent b c t → Independent b c (outcome a t).table
still_independent a b c t nb nc ab ac bc =
    let u : Table = (outcome a t).table in
    let (d, e) = ab.accepted_a in
    let fb : Fits b t = accepted_fits b t ab.accepted_b in
    let fc : Fits c t = accepted_fits c t ac.accepted_b in
    let xb : Survives a d t u (row_named b t) (row_named b u) = named_again a t d e b ab in
    let xc : Survives a d t u (row_named c t) (row_named c u) = named_again a t d e c ac in
    let (few, wide) = room u (edited_sound a t (d, e)) in
    record {
      accepted_a = (either_order a b t ab).0;
      accepted_b = (either_order a c t ac).0;
      rows_differ = λ q. bc.rows_differ (
          ap (row_of t.key t.count)
          (sym (row_key t (key_of b) fb.found) ∙ sym xb.key ∙ ap (at u.key) q ∙ xc.key
          ∙ row_key t (key_of c) fc.found));
      a_not_above = ancestor_again a t d e _ _ _ _ fb.found fc.found (named_stays a c t ac) xb xc
          ∙ bc.a_not_above;
      b_not_above = ancestor_again a t d e _ _ _ _ fc.found fb.found (named_stays a b t ab) xc xb
          ∙ bc.b_not_above;
      one_root = λ x y. bc.one_root (was_root b t u xb.level x) (was_root c t u xc.level y);
      keys_differ = λ i j l m q. omega arith;
      in_limit = omega arith;
      in_columns = omega arith;
    }

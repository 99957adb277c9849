-- `rules::level_ok` meets its contract, test by test. Assumes nothing.
use Prim.Native.Nat.{ℕ, ◌+◌, ◌-◌, ◌<◌, ◌≤◌}
use mathlib.Core.Path.{◌≡◌, sym, ◌∙◌}
use mathlib.Core.Logic.{⊎_elim}
use native.Mathlib.Omega.{arith}
use lib.Dec.{leb}
use borrow.Author.Tests.{ne_eqb, eq-eqb, le-leb, lt-leb}
use Rattle.std.proofs.lemmas.Bool.{cases_lt}
use Rattle.tree.specs.Sound.{level_ok}
use Rattle.rules.proofs.level_ok.Goals as goal

-- one level less is at most that of the row before where the level is at most one more
fewer : (own before : ℕ) → leb (own - 1) before ≡ leb own (before + 1)
fewer own before = ⊎_elim
    (λ (l : before < own - 1). lt-leb _ _ l ∙ sym (lt-leb own (before + 1) (omega arith)))
    (λ (l : own - 1 ≤ before). le-leb _ _ l ∙ sym (le-leb own (before + 1) (omega arith)))
    (cases_lt before (own - 1))

pub returns-then-i-eq0 : goal.returns-then-i-eq0
unfolding level_ok
returns-then-i-eq0 c = simp (eq-eqb _ _ c.if-i-eq0.true)

pub returns : goal.returns
unfolding level_ok
returns c = simp (ne_eqb _ _ c.if-i-eq0.false, c.saturating_sub.ensures, fewer)

-- What the columns hold beyond the rows in use after an accepted edit: RULES 01, "Finding and editing by key", on spare
-- and freed rows. That they do is `spare_stays`, `freed_zero`, `lengths_stay` (proofs/SpareLaws.antt). That an edit
-- does not read them, where the room is the same, is `in_use_edit` (proofs/InUseLaws.antt). Assumes nothing.
use Rattle.std.specs.Prelude.{ℕ, ◌≡◌, length}
use Rattle.tree.specs.Table.{Table, at, shortest}
use Rattle.after_edit.specs.Act.{Act, insertion, deletion, renaming}

-- the five columns of t and u agree at row i
pub record SameAt (t u : Table) (i : ℕ) : Type 0 where
  pub key : at u.key i ≡ at t.key i
  pub size : at u.size i ≡ at t.size i
  pub level : at u.level i ≡ at t.level i
  pub kind : at u.kind i ≡ at t.kind i
  pub name : at u.name i ≡ at t.name i

-- row i of u is zero in all five columns
pub record ZeroAt (u : Table) (i : ℕ) : Type 0 where
  pub key : at u.key i ≡ 0
  pub size : at u.size i ≡ 0
  pub level : at u.level i ≡ 0
  pub kind : at u.kind i ≡ 0
  pub name : at u.name i ≡ 0

-- the five columns of u are as long as those of t
pub record SameLengths (t u : Table) : Type 0 where
  pub key : length u.key ≡ length t.key
  pub size : length u.size ≡ length t.size
  pub level : length u.level ≡ length t.level
  pub kind : length u.kind ≡ length t.kind
  pub name : length u.name ≡ length t.name

-- t and u have the same room for an edit: an insertion alone asks for room, in the shortest column
abbrev pub SameRoom : Act → Table → Table → Type 0
SameRoom (insertion k p) t u = shortest t ≡ shortest u
SameRoom (deletion k) t u = Unit {0}
SameRoom (renaming k m) t u = Unit {0}

-- The number of this library's version: include/reach.h, REACH_VERSION. Assumes nothing.
use Rattle.std.specs.Prelude.{ℕ}

-- version 0.5.0, as the major number times 10,000, the minor times 100 and the third together
abbrev pub version : ℕ
version = 500

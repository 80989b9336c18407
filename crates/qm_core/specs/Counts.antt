-- Counts of failures.
use Rattle.std.specs.Prelude.{ℕ, ◌+◌, ◌%◌, ◌^◌}

-- a count plus one, modulo 2^64
abbrev pub one_more : ℕ → ℕ
one_more count = (count + 1) % 2 ^ 64

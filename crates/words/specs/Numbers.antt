-- Numbers as ASCII text. Definitions only.
use Rattle.std.specs.Prelude.{ℕ, ◌+◌, cond, List, map, ltb}
use Rattle.words.specs.Digits.{digits}

-- a digit's character: 0 to 9, then upper-case letters
abbrev pub character : ℕ → ℕ
character d = cond (ltb d 10) (48 + d) (55 + d)

-- eight digits
unfoldable pub hexadecimal : ℕ → List ℕ
hexadecimal n = map character (digits 16 8 n)

-- a number below 1,000, with no leading zero
unfoldable pub decimal : ℕ → List ℕ
decimal n = map character (digits 10 (cond (ltb n 10) 1 (cond (ltb n 100) 2 3)) n)

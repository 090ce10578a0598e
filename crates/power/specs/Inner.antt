-- Not of document 01: what the code's inner steps ask of one another. No public contract cites it. Definitions only.
use Rattle.std.specs.Prelude.{◌*◌, ◌^◌, ◌<◌, ℤ, pos, negsuc}

-- the exponents E whose power the code computes: from -126 * 2 ^ 30 to below 128 * 2 ^ 30, as a normal number's logarithm does
abbrev pub InRange : ℤ → Type 0
InRange (pos a) = a < 128 * 2 ^ 30
InRange (negsuc a) = a < 126 * 2 ^ 30

-- A function that calls itself, at a measure t of its arguments: what it may assume (`here`), and what it owes where it calls itself (`below`).
use Rattle.std.proofs.Common.{ℕ, ◌<◌, List}
use borrow.Fn.Kind.{ParamKind}
use borrow.Fn.Kinds.{In}
use borrow.Fn.PlainCycle.{Measures, is, falls, and}

abbrev pub here : (ps : List (ParamKind 0)) → Measures 0 ps ℕ → In 0 ps → ℕ → In 0 ps
here ps μ P t = and 0 ps (is 0 ps μ t) P

abbrev pub below : (ps : List (ParamKind 0)) → Measures 0 ps ℕ → In 0 ps → ℕ → In 0 ps
below ps μ P t = and 0 ps (falls 0 ps ◌<◌ μ t) P

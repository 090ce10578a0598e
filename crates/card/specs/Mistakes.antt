-- What is wrong with a card: the type's mistake, else the first line's that has one, else the first field that is missing. Definitions only.
use Rattle.std.specs.Prelude.{ℕ, ◌-◌, Bool, not, cond, ◌&&◌, List, eqb, ltb, length, Float, Option, Some, None, is_some, Result, Ok, Err}
use Rattle.decimal.specs.declared.NotRead.{NotRead}
use Rattle.decimal.specs.declared.NotRead.TheVariants as read
use Rattle.decimal.specs.Reading as decimal
use Rattle.fields.specs.declared.Kind.{Kind}
use Rattle.fields.specs.Least.{least}
use Rattle.fields.specs.Names.{TYPE, FIELDS}
use Rattle.fields.specs.Table.{has_field, count_of}
use Rattle.fields.specs.Limits.{takes, refusal_of}
use Rattle.card.specs.declared.mistakes.Fault.{Fault}
use Rattle.card.specs.declared.mistakes.Fault.TheVariants.{Unknown, Twice, Foreign, TooFew, TooMany, NotANumber, TooLarge, Limit, Missing}
use Rattle.card.specs.declared.mistakes.Mistake.{Mistake}
use Rattle.card.specs.Card.{Line, Card, word, field_in, line_at, line_of}
use Rattle.card.specs.Kind.{is_curtain}
use Rattle.card.specs.Mistake.{mistake, told, or_else}

-- ---- a number

-- what is wrong with a field's number k as it reads
unfoldable pub read_fault : Kind → ℕ → ℕ → Result Float NotRead → Option Fault
read_fault kind f k (Ok x) = cond (takes kind f k x) None (Some (Limit (refusal_of f)))
read_fault kind f k (Err read.TooLarge) = Some TooLarge
read_fault kind f k (Err read.NotANumber) = Some NotANumber

-- the type may be `curtain`; every other word after a field's name is to be a number
unfoldable pub word_fault : Kind → ℕ → ℕ → List ℕ → Option Fault
word_fault kind f k w = cond (eqb f TYPE && is_curtain w) None (read_fault kind f k (decimal.read_of w))

-- ---- a line

-- the first of a line's numbers with something wrong, 0 where there is none
abbrev pub is_bad : Kind → Line → ℕ → Bool
is_bad kind line k = is_some (word_fault kind (field_in line) k (word line k))

unfoldable pub first_bad : Kind → Line → ℕ
first_bad kind line = least (is_bad kind line) (length line - 1)

-- what is wrong with line i but for what its numbers are: the field, then their count
unfoldable pub field_fault : Kind → Card → ℕ → Option Fault
field_fault kind card i =
    let line = line_at card i in
    let f = field_in line in
    let n = length line - 1 in
    cond (eqb f 0) (Some Unknown)
    (cond (ltb (line_of card f) i) (Some (Twice (line_of card f)))
    (cond (not (has_field kind f)) (Some Foreign)
    (cond (ltb n (count_of kind f)) (Some TooFew)
    (cond (ltb (count_of kind f) n) (Some TooMany) None))))

-- what is wrong with line i; a line without words says nothing
unfoldable pub mistake_in : Kind → Card → ℕ → Option Mistake
mistake_in kind card i =
    let line = line_at card i in
    let f = field_in line in
    let k = first_bad kind line in
    cond (eqb (length line) 0) None
    (or_else (told i f 0 (field_fault kind card i))
    (cond (eqb k 0) None (told i f k (word_fault kind f k (word line k)))))

-- ---- a card

-- the first line that has one
abbrev pub is_wrong : Kind → Card → ℕ → Bool
is_wrong kind card i = is_some (mistake_in kind card i)

unfoldable pub first_mistake : Kind → Card → Option Mistake
first_mistake kind card = mistake_in kind card (least (is_wrong kind card) (length card))

-- the first `type` line's; a card without one is told so at line 1
unfoldable pub type_mistake : Kind → Card → Option Mistake
type_mistake kind card = let i = line_of card TYPE in cond (eqb i 0) (Some (mistake Missing 1 TYPE 0)) (mistake_in kind card i)

-- the first field of the kind that the card doesn't have, 0 where it has them all; told at the line of `type`
abbrev pub is_missing : Kind → Card → ℕ → Bool
is_missing kind card f = has_field kind f && eqb (line_of card f) 0

unfoldable pub first_missing : Kind → Card → ℕ
first_missing kind card = least (is_missing kind card) FIELDS

unfoldable pub missing_field : Kind → Card → Option Mistake
missing_field kind card = let f = first_missing kind card in cond (eqb f 0) None (Some (mistake Missing (line_of card TYPE) f 0))

unfoldable pub card_mistake : Kind → Card → Option Mistake
card_mistake kind card = or_else (type_mistake kind card) (or_else (first_mistake kind card) (missing_field kind card))

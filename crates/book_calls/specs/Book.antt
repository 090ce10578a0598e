-- Document 02, card 8: `hf_book` and `hf_station_for`, the band book's answers as one number. Definitions only.
use Rattle.std.specs.Prelude.{ℕ, List}
use Rattle.bandbook.specs.Answers.{Answer, accepted, refused, refused_at}
use Rattle.bandbook.specs.Book.{book_of, station_for}
use Rattle.packed.specs.Packed as packed_as

-- a value; a refusal's number under kind 3; its number and place under kind 4
unfoldable pub packed : Answer → ℕ
packed (accepted value) = value
packed (refused number) = packed_as.refused_as number
packed (refused_at number place) = packed_as.refused_at number place

unfoldable pub book_call : List ℕ → ℕ
book_call rows = packed (book_of rows)

unfoldable pub station_call : List ℕ → ℕ → ℕ
station_call rows khz = packed (station_for rows khz)

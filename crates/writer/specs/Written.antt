-- What a sender writes. An event is its id line, its event line unless the type is `message`, a data line for each piece of its data between LFs, and
-- a blank line. Each line ends as the sender ends its lines.
use Rattle.std.specs.Prelude.{◌≡◌, ℕ, cond, List, [], ◌++◌, codes, decimal, ◌==◌, refl}
use Rattle.std.specs.List.{flat_map, slice_split}
use Rattle.std.specs.Fmt.{digits}
use Rattle.std.specs.Str.{bytes_eq}
use Rattle.events.specs.Entry.{Entry}
use Rattle.events.specs.LineEnd.{end_bytes}
use Rattle.events.specs.declared.line_end.LineEnd.{LineEnd}
use Rattle.events.specs.declared.line_end.LineEnd.TheVariants.{Lf, CrLf, Cr}

-- a field's line: its name, a colon and a space, its value, and the end
abbrev pub field_line : LineEnd → List ℕ → List ℕ → List ℕ
field_line e name value = name ++ (codes ": " ++ (value ++ end_bytes e))

-- The pieces of data between LFs. Empty data is one empty piece.
abbrev pub pieces : List ℕ → List (List ℕ)
pieces body = slice_split (λ b. b == 0x0A) body

abbrev pub id_line : LineEnd → List ℕ → List ℕ
id_line e id = field_line e (codes "id") id

-- The type `message` is what a reader takes where no type is written.
abbrev pub type_line : LineEnd → List ℕ → List ℕ
type_line e type = cond (bytes_eq type (codes "message")) [] (field_line e (codes "event") type)

abbrev pub data_lines : LineEnd → List ℕ → List ℕ
data_lines e body = flat_map (field_line e (codes "data")) (pieces body)

-- an event with its id text
unfoldable pub written : LineEnd → List ℕ → Entry → List ℕ
written e id x = id_line e id ++ (type_line e x.type ++ (data_lines e x.«data» ++ end_bytes e))

-- a comment that says nothing
unfoldable pub comment_line : LineEnd → List ℕ
comment_line e = codes ":" ++ end_bytes e

-- a reconnection time in milliseconds
unfoldable pub retry_line : LineEnd → ℕ → List ℕ
retry_line e n = field_line e (codes "retry") (decimal n)

abbrev entry : List ℕ → List ℕ → Entry
entry type body = record { type = type; «data» = body }

example : written Lf (codes "1B") (entry (codes "insert") (codes "0 17")) ≡ codes "id: 1B\nevent: insert\ndata: 0 17\n\n"
unfolding written
example = refl

example_crlf : written CrLf (codes "1B") (entry (codes "insert") (codes "0 17")) ≡ codes "id: 1B\r\nevent: insert\r\ndata: 0 17\r\n\r\n"
unfolding written
example_crlf = refl

example_message : written Lf (codes "7") (entry (codes "message") []) ≡ codes "id: 7\ndata: \n\n"
unfolding written
example_message = refl

example_pieces : written Cr (codes "7") (entry (codes "note") (codes "\na\n")) ≡ codes "id: 7\revent: note\rdata: \rdata: a\rdata: \r\r"
unfolding written
example_pieces = refl

example_comment : comment_line CrLf ≡ codes ":\r\n"
unfolding comment_line
example_comment = refl

example_retry : retry_line Lf 5000 ≡ codes "retry: 5000\n"
unfolding retry_line digits
example_retry = refl

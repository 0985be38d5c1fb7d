-- The lines of an offending record (document 02, request 7), in the words of the printed statement.
use Rattle.std.specs.Prelude.{ℕ, cond, List, [], ◌∷◌, ◌++◌, eqb, leb, pos, length}
use Rattle.fields.specs.Fields.{byte_at}
use Rattle.names.specs.Names.{name_at}
use Rattle.writers.specs.Text.{ascii, decimal, unfilled, hexadecimal}
use Rattle.printout.specs.Lines.{joined, line}
use Rattle.meanings.specs.Meanings.{kind_word}

-- a label and a text, ended by one line feed
unfoldable pub text_line : List ℕ → List ℕ → List ℕ
text_line label text = label ++ text ++ ascii "\n"

-- the kind byte and its word
unfoldable pub kind_line : ℕ → List ℕ
kind_line kind = ascii "kind " ++ decimal (pos kind) ++ text_line (ascii " ") (kind_word kind)

-- the name, where the part has the kind byte and 16 bytes more: two digits a byte, without the filling. No kind without a name is so long
unfoldable pub name_line : List ℕ → List ℕ
name_line part = cond (leb 17 (length part)) (text_line (ascii "name ") (hexadecimal (unfilled (name_at part 1)))) []

-- all bytes of the part, two digits a byte
unfoldable pub bytes_line : List ℕ → List ℕ
bytes_line part = text_line (ascii "bytes ") (hexadecimal part)

-- of a part that is not empty: the record's kind, its number within its kind, its name, its bytes
unfoldable pub record_lines : ℕ → List ℕ → List ℕ
record_lines number part =
    cond (eqb (length part) 0) []
    (joined (kind_line (byte_at part 0) ∷ line (ascii "record ") (pos number) ∷ name_line part ∷ bytes_line part ∷ []))

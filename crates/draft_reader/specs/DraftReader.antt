-- What the reader of drafts gives of a sheet (document 02, requests 3 and 6).
use Rattle.std.specs.Prelude.{ℕ, List}
use Rattle.drafts.specs.Draft.{draft_of}
use Rattle.sheet.specs.Sheet.{reading, number_in, content_of}
use Rattle.draft_reader.specs.declared.Drafted.{Drafted}

-- the refusal, and the content's draft. A refused sheet has no content: its draft is of zeros
abbrev pub drafted_from : List ℕ → Drafted
drafted_from s = record { refusal = number_in (reading s); draft = draft_of (content_of s) }

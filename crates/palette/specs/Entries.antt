-- Opcode 0C, set palette: words start and count, then 3 bytes an entry for the entries from start on.
-- Assumes nothing.
use Rattle.std.specs.Prelude.{List, ℕ, ◌+◌, ◌*◌, eqb, leb, length}
use Rattle.words.specs.Word.{word_at}
use Rattle.listed.specs.Store.{bytes, from}
use Rattle.palette.specs.Update.{Update}

abbrev pub start : List ℕ → ℕ
start body = word_at body 0

abbrev pub count : List ℕ → ℕ
count body = word_at body 2

-- a body too short for its words has the wrong length whatever they are
abbrev pub set_palette : List ℕ → Update
set_palette body =
    record {
      exact = eqb (length body) (4 + 3 * count body);
      inside = leb (start body + count body) 256;
      stores = bytes (3 * start body) (from body 4) (3 * count body);
    }

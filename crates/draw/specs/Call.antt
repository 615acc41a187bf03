-- A drawing call, for both widths: what it brings, whether it is refused at the memory that it finds, and document 01's values of its answer.
-- Order of its tests: size 6, pictures 8, map 10, place 11, parts 20, then block by block 12, 13, 14, then 15.
-- Assumes nothing.
use Rattle.std.specs.Prelude.{Bool, true, false, cond, List, [], ℕ, eqb, ltb, length, Result, Ok, Err, Option, None}
use Rattle.refusal.specs.declared.Refusal.{Refusal}
use Rattle.refusal.specs.Number.{Verdict, accept, refuse, number, block}
use Rattle.packet.specs.Packet.{Packet, packet_in, blocks, pixels}
use Rattle.packet.specs.declared.Rows.{Rows}
use Rattle.packet.specs.Rows.{touched}
use Rattle.packet.specs.Verdict.{legal_size, map_fits, parts_verdict}
use Rattle.stores.specs.Stores.{Plan, Memory}
use Rattle.stores.specs.Calls.{Call, refused, allowed, Answer, whole, unfinished, refusal, Outcome, answered, Calling, step, reply}
use Rattle.paint.specs.Value.{Older}
use Rattle.draw.specs.Drawing.{plan_over}
use Rattle.draw.specs.declared.Allowed.{Allowed}
use Rattle.draw.specs.declared.Drawn.{Drawn}
use Rattle.draw.specs.declared.Drawn.TheVariants.{Whole, Unfinished}

-- what a call is allowed: so many stores, and so many bytes of the packet left over
abbrev pub within : ℕ → ℕ → Allowed
within stores spare = record { stores = stores; spare = spare }

-- whether the film has true colour, the size in blocks, the map, the packet, the shown picture ("front"), the oldest one of a film with true colour, and what is allowed
pub record Request : Type 0 where
  pub deep : Bool
  pub columns : ℕ
  pub rows : ℕ
  pub map : List ℕ
  pub bytes : List ℕ
  pub front : List ℕ
  pub oldest : List ℕ
  pub allowed : Allowed

abbrev pub asking : Bool → ℕ → ℕ → List ℕ → List ℕ → List ℕ → List ℕ → Allowed → Request
asking deep columns rows map bytes front oldest n =
    record { deep = deep; columns = columns; rows = rows; map = map; bytes = bytes; front = front; oldest = oldest; allowed = n }

-- of an 8-bit film, whose oldest picture is the one that is drawn on
abbrev pub request : ℕ → ℕ → List ℕ → List ℕ → List ℕ → Allowed → Request
request columns rows map bytes front n = asking false columns rows map bytes front [] n

-- of a film with true colour
abbrev pub word_request : ℕ → ℕ → List ℕ → List ℕ → List ℕ → List ℕ → Allowed → Request
word_request columns rows map bytes last oldest n = asking true columns rows map bytes last oldest n

abbrev pub packet_of : Request → Packet
packet_of c = packet_in c.deep c.columns c.rows c.map c.bytes

-- the pictures that no store changes, and the plan that a call draws
abbrev pub older_of : Request → Older
older_of c = record { last = c.front; oldest = c.oldest }

abbrev pub call_plan : Request → Plan
call_plan c = plan_over (packet_of c) (older_of c)

-- of a film with true colour the oldest picture is tested, too: whether it is shorter than this
abbrev pub is_oldest_short : Bool → ℕ → ℕ → Bool
is_oldest_short false oldest long = false
is_oldest_short true oldest long = ltb oldest long

-- the verdict on a size, a map, a packet, pictures this long and a place, where so many bytes may be left over
unfoldable pub call_verdict_in : Bool → ℕ → ℕ → ℕ → List ℕ → List ℕ → ℕ → ℕ → ℕ → ℕ → Verdict
call_verdict_in deep spare columns rows map bytes front oldest back place =
    cond (legal_size columns rows)
    (cond (ltb front (pixels columns rows)) (refuse 8 0)
    (cond (is_oldest_short deep oldest (pixels columns rows)) (refuse 8 0)
    (cond (ltb back (pixels columns rows)) (refuse 8 0)
    (cond (map_fits (packet_in deep columns rows map bytes))
    (cond (ltb (blocks (packet_in deep columns rows map bytes)) place) (refuse 11 0) (parts_verdict deep spare columns rows map bytes))
    (refuse 10 0)))))
    (refuse 6 0)

-- of an 8-bit film
abbrev pub call_verdict : ℕ → ℕ → ℕ → List ℕ → List ℕ → ℕ → ℕ → ℕ → Verdict
call_verdict spare columns rows map bytes front back place = call_verdict_in false spare columns rows map bytes front 0 back place

-- the verdict on a call at the memory that it finds
abbrev pub draw_verdict : Request → Memory → Verdict
draw_verdict c m =
    call_verdict_in c.deep c.allowed.spare c.columns c.rows c.map c.bytes (length c.front) (length c.oldest) (length m.picture) m.place

-- a refusal's number and block
pub record Reason : Type 0 where
  pub number : ℕ
  pub block : ℕ

abbrev pub reason : ℕ → ℕ → Reason
reason n k = record { number = n; block = k }

-- what a call comes to by its verdict
unfoldable pub comes : Verdict → ℕ → Call Reason
comes accept n = allowed n
comes (refuse number block) n = refused (reason number block)

-- drawing calls: the plan that each draws, the rows of blocks that its packet touches (document 02, W2), none where it is refused, and what it comes to
abbrev pub calling : Calling Request Reason (Option Rows)
calling =
    record {
      plan = call_plan;
      rows = λ c. touched (packet_of c);
      none = None;
      meets = λ c m. comes (draw_verdict c m) c.allowed.stores;
    }

-- all that a call is lent: the shown picture, the oldest one of a film with true colour, and the picture drawn on with the place
pub record Pictures : Type 0 where
  pub shown : List ℕ
  pub oldest : List ℕ
  pub drawn : Memory

abbrev pub word_pictures : List ℕ → List ℕ → Memory → Pictures
word_pictures shown oldest m = record { shown = shown; oldest = oldest; drawn = m }

-- of an 8-bit film
abbrev pub pictures : List ℕ → Memory → Pictures
pictures shown m = word_pictures shown [] m

-- what a call leaves of it: the older pictures stay
abbrev pub leaves : Request → Memory → Pictures
leaves c m = word_pictures c.front c.oldest (step calling m c)

-- what a call tells: its answer, its count and the rows of blocks that its packet touches
abbrev pub Report : Type 0
Report = Outcome Reason (Option Rows)

abbrev pub report : Memory → Request → Report
report m c = reply calling m c

abbrev pub reporting : Answer Reason → ℕ → Option Rows → Report
reporting a n t = record { answer = a; count = n; rows = t }

-- an accepted call that made so many stores and left the place there, of a packet that touches these rows
abbrev pub answering : ℕ → ℕ → ℕ → Option Rows → Report
answering blocks place count t = reporting (answered (eqb place blocks)) count t

-- document 01's values of each answer: "whole" and "unfinished" with the count of stores made, a refusal with its number and block
abbrev pub said : Result Drawn Refusal → Report
said (Ok (Whole n t)) = reporting whole n t
said (Ok (Unfinished n t)) = reporting unfinished n t
said (Err r) = reporting (refusal (reason (number r) (block r))) 0 None

-- Rows of blocks that a drawing call does not touch (document 02, W2): of every call, whatever the memory and the place, cut or not, refused or not, in
-- the default and in the strict form, the pixels outside the rows that it tells are as they were.
-- Assumes nothing.
use Rattle.std.specs.Prelude.{◌≡◌, ℕ, get_or}
use Rattle.packet.specs.Rows.{Outside}
use Rattle.stores.specs.Stores.{Memory}
use Rattle.stores.specs.Calls.{Event, call_of, happens}
use Rattle.draw.specs.Call.{Request, calling, report}

abbrev pub Unchanged : Memory → Event Request → Type 0
Unchanged m e =
    (t : ℕ) → Outside (call_of e).columns (report m (call_of e)).rows t → get_or (happens calling m e).picture t 0 ≡ get_or m.picture t 0

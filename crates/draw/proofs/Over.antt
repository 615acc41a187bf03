-- What a packet leaves over is not read: `over_unread`.
-- Assumes nothing.
use mathlib.Core.Path.{◌≡◌, refl, sym, ap, ◌∙◌}
use mathlib.Core.Bool.{Bool, true, false, cond}
use mathlib.Core.List.{List}
use Prim.Native.Nat.{ℕ, ◌+◌, ◌-◌, ◌<◌, min}
use native.Mathlib.Omega.{arith}
use lib.ListN.{length, take, drop, get_or, length-take, length-drop}
use lib.Seq.{get_or-take, get_or-drop, ext_get_or}
use Rattle.words.specs.Word.{word_at}
use Rattle.refusal.specs.Number.{accept}
use Rattle.pattern.proofs.Agree.{Agree}
use Rattle.packet.specs.Packet.{Packet, offsets_at, first_part, second_part, bytes_in, offsets_in, Position, blocks, width, left, top, start, kind}
use Rattle.packet.specs.Accepted.{Takes, InTwo, PartsFit, AcceptsIn}
use Rattle.std.specs.Prelude.{None}
use Rattle.packet.specs.Rows.{touched}
use Rattle.packet.proofs.Agree.{start_same, kind_same, takes_same, fetched_same}
use Rattle.packet.proofs.Agree as packet
use Rattle.stores.specs.Stores.{Memory}
use Rattle.stores.specs.Calls.{happens}
use Rattle.stores.proofs.Agree.{Alike, leave_agree, outcome_agree, cut_agree}
use Rattle.paint.specs.Value.{pixel_count, Older, pixel_value}
use Rattle.paint.proofs.Counts.{count_few}
use Rattle.draw.specs.Drawing.{size_at, target_at, value_at, plan_over}
use Rattle.draw.specs.Call.{Request, packet_of, older_of, draw_verdict, comes, word_pictures}
use Rattle.draw.specs.Taken.{DrawAcceptsIn}
use Rattle.draw.specs.Forms.{SameCall, with_bytes, end_of, used_to, OverUnread}
use Rattle.draw.proofs.Exactly.{drawn_exactly}

module _ (p : Packet) (bytes offsets : List ℕ) (older : Older) (same : Agree (start p (blocks p)).bytes p.bytes bytes) (beside : Agree (start p (blocks p)).offsets p.offsets offsets) (w : (k : ℕ) → k < blocks p → Takes p k) where
  -- the two drawings store the same
  alike : Alike (plan_over p older) (plan_over (packet.with_bytes p bytes offsets) older)
  unfolding size_at target_at value_at pixel_value
  alike =
      record {
        blocks = refl;
        sizes = λ k l. ap pixel_count (kind_same p bytes offsets same beside k l);
        targets = λ k i l h. refl;
        values = λ k i l h b.
            fetched_same p bytes offsets same beside k l (w k l) (width p) (left p k) (top p k) i (omega (arith, h, count_few (kind p k))) older.last b (cond p.deep older.oldest b);
      }

-- bytes that are one leading part agree there
agree : (n : ℕ) (a b : List ℕ) → take n a ≡ take n b → Agree n a b
agree n a b e j h = sym (get_or-take n a j 0 h) ∙ ap (λ (l : List ℕ). get_or l j 0) e ∙ get_or-take n b j 0 h

-- ---- the parts of two packets

-- they are as long, and are the same as far as the blocks use them
record SameParts (deep : Bool) (a b : List ℕ) (u : Position) : Type 0 where
  first : Agree u.bytes (bytes_in deep a) (bytes_in deep b)
  second : Agree u.offsets (offsets_in deep a) (offsets_in deep b)
  first_long : length (bytes_in deep a) ≡ length (bytes_in deep b)
  second_long : length (offsets_in deep a) ≡ length (offsets_in deep b)
  fit : PartsFit deep b

module _ (a b : List ℕ) (u : ℕ) (f : InTwo a) (long : length a ≡ length b) (s : Agree (offsets_at a + u) a b) where
  word_same : offsets_at a ≡ offsets_at b
  unfolding offsets_at word_at
  word_same = let e = s 0 (omega (arith, f.behind)) in let g = s 1 (omega (arith, f.behind)) in omega (arith, e, g)

  first_length : (c : List ℕ) → length (first_part c) ≡ min (offsets_at c - 2) (length c - 2)
  unfolding first_part
  first_length c = length-take (offsets_at c - 2) (drop 2 c) ∙ ap (min (offsets_at c - 2)) (length-drop 2 c)

  first_same : first_part a ≡ first_part b
  unfolding first_part
  first_same =
      ext_get_or 0 _ _ (first_length a ∙ rw (word_same, long) (sym (first_length b)))
      (λ t l.
      let q : t < offsets_at a - 2 = omega (arith, l, first_length a) in
      let q' : t < offsets_at b - 2 = omega (arith, q, word_same) in
      get_or-take (offsets_at a - 2) (drop 2 a) t 0 q ∙ get_or-drop 2 a t 0 ∙ s (2 + t) (omega (arith, q)) ∙ sym (get_or-drop 2 b t 0) ∙ sym (get_or-take (offsets_at b - 2) (drop 2 b) t 0 q'))

  second_same : Agree u (second_part a) (second_part b)
  unfolding second_part
  second_same j h = get_or-drop (offsets_at a) a j 0 ∙ s (offsets_at a + j) (omega arith) ∙ ap (λ (n : ℕ). get_or b (n + j) 0) word_same ∙ sym (get_or-drop (offsets_at b) b j 0)

  second_length : length (second_part a) ≡ length (second_part b)
  unfolding second_part
  second_length = omega (arith, length-drop (offsets_at a) a, length-drop (offsets_at b) b, long, word_same)

same_parts : (deep : Bool) (a b : List ℕ) (u : Position) → PartsFit deep a → length a ≡ length b → Agree (end_of deep a u) a b → SameParts deep a b u
same_parts false a b u f long s = record { first = s; second = λ j h. refl; first_long = long; second_long = refl; fit = tt }
same_parts true a b u f long s =
    let e = first_same a b u.offsets f long s in
    let w = word_same a b u.offsets f long s in
    record {
      first = λ j h. ap (λ (l : List ℕ). get_or l j 0) e;
      second = second_same a b u.offsets f long s;
      first_long = ap length e;
      second_long = second_length a b u.offsets f long s;
      fit = record { word = omega (arith, f.word, long); behind = omega (arith, f.behind, w); inside = omega (arith, f.inside, long, w) };
    }

-- ---- a call

module _ (c : Request) (m : Memory) (v : draw_verdict c m ≡ accept) (bytes : List ℕ) (long : length c.bytes ≡ length bytes) (same : Agree (used_to c) c.bytes bytes) where
  taken : DrawAcceptsIn c.deep c.allowed.spare c.columns c.rows c.map c.bytes (length c.front) (length c.oldest) (length m.picture) m.place
  taken =
      (drawn_exactly c.deep c.allowed.spare c.columns c.rows c.map c.bytes (length c.front) (length c.oldest) (length m.picture) m.place).0 v

  parts : SameParts c.deep c.bytes bytes (start (packet_of c) (blocks (packet_of c)))
  parts = same_parts c.deep c.bytes bytes (start (packet_of c) (blocks (packet_of c))) taken.accepted.parts long same

  also : AcceptsIn c.deep c.allowed.spare c.columns c.rows c.map bytes
  also =
      let a = taken.accepted in
      let s = start_same (packet_of c) (bytes_in c.deep bytes) (offsets_in c.deep bytes) parts.first parts.second (blocks (packet_of c)) (omega arith) in
      record {
        wide = a.wide;
        high = a.high;
        mapped = a.mapped;
        parts = parts.fit;
        drawn =
            λ k l.
            takes_same (packet_of c) (bytes_in c.deep bytes) (offsets_in c.deep bytes) parts.first parts.second parts.first_long parts.second_long k l (a.drawn k l);
        used = record { first = rw (← s, ← parts.first_long) a.used.first; second = rw (← s, ← parts.second_long) a.used.second };
      }

  also_drawn : draw_verdict (with_bytes c bytes) m ≡ accept
  also_drawn =
      (drawn_exactly c.deep c.allowed.spare c.columns c.rows c.map bytes (length c.front) (length c.oldest) (length m.picture) m.place).1
      (record { accepted = also; front_long = taken.front_long; oldest_long = taken.oldest_long; back_long = taken.back_long; within = taken.within })

  same_call : SameCall c (with_bytes c bytes) m
  unfolding happens touched
  same_call =
      let h = alike (packet_of c) (bytes_in c.deep bytes) (offsets_in c.deep bytes) (older_of c) parts.first parts.second taken.accepted.drawn in
      record {
        verdict = v ∙ sym also_drawn;
        leaves = rw (v, also_drawn) (ap (word_pictures c.front c.oldest) (leave_agree _ _ h m (comes accept c.allowed.stores)));
        tells = rw (v, also_drawn) (outcome_agree _ _ h (touched (packet_of c)) None m (comes accept c.allowed.stores));
        cuts = λ j. rw (v, also_drawn) (cut_agree _ _ h m (comes accept c.allowed.stores) j);
      }

pub over_unread : (c : Request) (m : Memory) → draw_verdict c m ≡ accept → OverUnread c m
over_unread c m v bytes long e = same_call c m v bytes long (agree _ c.bytes bytes e)

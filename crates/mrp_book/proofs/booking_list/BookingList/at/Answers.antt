use Rattle.std.specs.declared.sync.Arc.{Arc}
use Rattle.std.proofs.Common.{◌≡◌, ◌∙◌, ◌<◌, ◌*◌, ◌-◌, ◌/◌, ◌%◌, ℕ, List, [], Vec, Global, length, map, get_or, ap, sym, subst, arith, lit<}
use Rattle.std.proofs.lemmas.List.{get_or-map, length-map}
use Rattle.mrp_book.specs.declared.booking.Booking.{Booking}
use Rattle.mrp_book.proofs.ChunkLists.{at_chunk, length-joined, past_chunks}
use Rattle.mrp_book.proofs.booking_list.BookingList.at.Goals as goal
use Rattle.mrp_book.proofs.booking_list.BookingList.at.Goals.{After-deref}

abbrev bookings_of : Arc (Vec Booking Global) Global → List Booking
bookings_of chunk = chunk.value.items

-- the bookings of the chunk that is read
chunk_is : (c : After-deref) → get_or (map bookings_of c.self.inside.chunks.items) (c.args.place / 512) [] ≡ c.deref.result.now.items
chunk_is c =
    let k : ℕ = c.args.place / 512 in
    let within : k < length c.self.inside.chunks.items = omega (arith, c.if-chunk-len.true, c.len.ensures, c.self.inside.chunks.ok.0) in
    get_or-map bookings_of c.self.inside.chunks.items k c.index.result.now [] within ∙ ap bookings_of (sym c.index.ensures) ∙ sym (ap (λ (v : Vec Booking Global). v.items) c.deref.ensures)

within_chunks : (c : After-deref) → c.args.place / 512 < length (map bookings_of c.self.inside.chunks.items)
within_chunks c = omega (arith, c.if-chunk-len.true, c.len.ensures, c.self.inside.chunks.ok.0, length-map c.self.inside.chunks.items bookings_of)

pub index-requires-then-chunk-len : goal.index-requires-then-chunk-len
index-requires-then-chunk-len c =
    let d = (goal.at.index-requires-then-chunk-len c).After-deref in
    omega (arith, c.deref.result.now.ok.0, ap length (chunk_is d), c.self.invariant (c.args.place / 512) [] (within_chunks d))

pub returns-then-chunk-len : goal.returns-then-chunk-len
returns-then-chunk-len c =
    let d = (goal.at.returns-then-chunk-len c).After-deref in
    let b : Booking = c.index-then-chunk-len.result.now in
    subst (λ (bookings : List Booking). b ≡ get_or bookings c.args.place b) c.self.view_is
    (c.index-then-chunk-len.ensures ∙ ap (λ (bookings : List Booking). get_or bookings (c.args.place % 512) b) (sym (chunk_is d))
    ∙ sym (at_chunk 512 (map bookings_of c.self.inside.chunks.items) c.self.inside.tail.items c.self.invariant c.args.place b (lit< tt) (within_chunks d)))

pub index-requires-else-chunk-len : goal.index-requires-else-chunk-len
index-requires-else-chunk-len c =
    omega (
      arith,
      c.if-chunk-len.false,
      c.len.ensures,
      c.len-else-chunk-len.ensures,
      c.self.inside.chunks.ok.0,
      c.self.inside.tail.ok.0,
      ap length c.self.view_is,
      length-map c.self.inside.chunks.items bookings_of,
      length-joined 512 (map bookings_of c.self.inside.chunks.items) c.self.inside.tail.items c.self.invariant,
    )

pub returns-else-chunk-len : goal.returns-else-chunk-len
returns-else-chunk-len c =
    let b : Booking = c.index-else-chunk-len.result.now in
    let chunks : List (List Booking) = map bookings_of c.self.inside.chunks.items in
    let count : length chunks ≡ c.len-else-chunk-len.result = omega (arith, c.len-else-chunk-len.ensures, c.self.inside.chunks.ok.0, length-map c.self.inside.chunks.items bookings_of) in
    let place : c.args.place - 512 * c.len-else-chunk-len.result ≡ c.args.place - length chunks * 512 = omega arith in
    subst (λ (bookings : List Booking). b ≡ get_or bookings c.args.place b) c.self.view_is
    (c.index-else-chunk-len.ensures ∙ ap (λ (i : ℕ). get_or c.self.inside.tail.items i b) place
    ∙ sym (past_chunks 512 chunks c.self.inside.tail.items c.self.invariant c.args.place b (omega (arith, c.if-chunk-len.false, c.len.ensures, c.len-else-chunk-len.ensures))))

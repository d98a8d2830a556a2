use Rattle.std.proofs.Common.{◌≡◌, ◌≤◌, ◌∙◌, ℕ, List, Option, Result, Ok, Err, option_map, length, ap, arith}
use Rattle.std.specs.Prelude.{IfSome, OnErr, OnOk}
use Rattle.mrp_rows.specs.declared.streams.WriteFault.{WriteFault}
use Rattle.mrp_journal.specs.Held.{Becomes, Held, cut_to, half_cut, settled, synced}
use Rattle.mrp_journal.specs.Journal.{CutsSafely, IsFound}
use Rattle.mrp_journal.specs.Lines.{whole_lines}
use Rattle.mrp_journal.proofs.Kept.{becomes, cut-is, cut-safe, half-safe, map-same, same-safe, sync-is, sync-safe}
use Rattle.mrp_journal.proofs.beginning.cut_behind.Goals as goal

is-length : (whole line : List ℕ) → whole ≡ line → length whole ≡ length line
is-length whole line e = ap length e

cut-done : (r : Result (Unit {0}) WriteFault) (bytes : List ℕ) (old new : Option Held) (at : ℕ) → IfSome old (IsFound bytes) → at ≡ length (whole_lines bytes)
    → OnOk r (new ≡ option_map (cut_to at) old) → OnOk r (new ≡ option_map (λ _. settled (whole_lines bytes)) old)
cut-done (Ok done) bytes old new at found is cut = cut ∙ cut-is bytes old at found is
cut-done (Err e) bytes old new at found is cut = cut

cut-left : (r : Result (Unit {0}) WriteFault) (bytes : List ℕ) (old new : Option Held) (at : ℕ) → IfSome old (IsFound bytes) → at ≡ length (whole_lines bytes)
    → OnOk r (new ≡ option_map (cut_to at) old) → OnErr r (new ≡ option_map (half_cut at) old) → Becomes (CutsSafely bytes) old new
cut-left (Ok done) bytes old new at found is cut half = becomes (CutsSafely bytes) (cut_to at) old new cut (cut-safe bytes old at found is)
cut-left (Err e) bytes old new at found is cut half = becomes (CutsSafely bytes) (half_cut at) old new half (half-safe bytes old at found is)

sync-done : (r : Result (Unit {0}) WriteFault) (bytes : List ℕ) (old new : Option Held) (at : ℕ) → IfSome old (IsFound bytes) → at ≡ length (whole_lines bytes) → length bytes ≤ at
    → OnOk r (new ≡ option_map synced old) → OnOk r (new ≡ option_map (λ _. settled (whole_lines bytes)) old)
sync-done (Ok done) bytes old new at found is long sync = sync ∙ sync-is bytes old found (omega arith)
sync-done (Err e) bytes old new at found is long sync = sync

sync-left : (r : Result (Unit {0}) WriteFault) (bytes : List ℕ) (old new : Option Held) → IfSome old (IsFound bytes)
    → OnOk r (new ≡ option_map synced old) → OnErr r (new ≡ old) → Becomes (CutsSafely bytes) old new
sync-left (Ok done) bytes old new found sync same = becomes (CutsSafely bytes) synced old new sync (sync-safe bytes old found)
sync-left (Err e) bytes old new found sync same = becomes (CutsSafely bytes) (λ h. h) old new (same ∙ map-same old) (same-safe bytes old found)

pub returns-then-whole-bytes-clause-cut : goal.returns-then-whole-bytes-clause-cut
returns-then-whole-bytes-clause-cut g c =
    cut-done c.cut.result c.args.bytes.now (g.S.Store.held c.args.store.now) (g.S.Store.held c.cut.new.self) (length c.whole_lines-whole.result.now) c.requires (is-length _ _ c.whole_lines-whole.ensures) c.cut.ensures.cut

pub returns-then-whole-bytes-clause-safe : goal.returns-then-whole-bytes-clause-safe
returns-then-whole-bytes-clause-safe g c =
    cut-left c.cut.result c.args.bytes.now (g.S.Store.held c.args.store.now) (g.S.Store.held c.cut.new.self) (length c.whole_lines-whole.result.now) c.requires (is-length _ _ c.whole_lines-whole.ensures) c.cut.ensures.cut c.cut.ensures.half

pub returns-else-whole-bytes-clause-cut : goal.returns-else-whole-bytes-clause-cut
returns-else-whole-bytes-clause-cut g c =
    sync-done c.sync.result c.args.bytes.now (g.S.Store.held c.args.store.now) (g.S.Store.held c.sync.new.self) (length c.whole_lines-whole.result.now) c.requires (is-length _ _ c.whole_lines-whole.ensures) c.if-whole-bytes.false c.sync.ensures.synced

pub returns-else-whole-bytes-clause-safe : goal.returns-else-whole-bytes-clause-safe
returns-else-whole-bytes-clause-safe g c =
    sync-left c.sync.result c.args.bytes.now (g.S.Store.held c.args.store.now) (g.S.Store.held c.sync.new.self) c.requires c.sync.ensures.synced c.sync.ensures.same

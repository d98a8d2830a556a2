-- The markup of a kind of messages is the page's own.
use Rattle.std.specs.List.{Contains}
use Rattle.mrp_page.specs.Kinds.{Kind, cancel, earlier, late, later, other, release}
use Rattle.mrp_page.specs.Known.{layouts, own_words}
use Rattle.mrp_page.proofs.made.Laid.{laid-cancel_open, laid-in_open, laid-late_open, laid-order_start, laid-order_week, laid-other_cells, laid-other_open, laid-out_open, laid-release_open, laid-row_end, laid-to_week, laid-weeks_late}
use Rattle.mrp_page.proofs.made.Plain.{own-cancel_front, own-in_front, own-late_front, own-other_front, own-out_front, own-release_front}

pub record OfKind (kind : Kind) : Type 0 where
  pub open-laid : Contains layouts kind.head
  pub front-own : Contains own_words kind.front
  pub order-laid : Contains layouts kind.order
  pub value-laid : Contains layouts kind.value

pub of-late : OfKind late
of-late = record { open-laid = laid-late_open; front-own = own-late_front; order-laid = laid-order_start; value-laid = laid-weeks_late }

pub of-release : OfKind release
of-release = record { open-laid = laid-release_open; front-own = own-release_front; order-laid = laid-order_start; value-laid = laid-row_end }

pub of-earlier : OfKind earlier
of-earlier = record { open-laid = laid-in_open; front-own = own-in_front; order-laid = laid-order_week; value-laid = laid-to_week }

pub of-later : OfKind later
of-later = record { open-laid = laid-out_open; front-own = own-out_front; order-laid = laid-order_week; value-laid = laid-to_week }

pub of-cancel : OfKind cancel
of-cancel = record { open-laid = laid-cancel_open; front-own = own-cancel_front; order-laid = laid-order_week; value-laid = laid-row_end }

pub of-other : OfKind other
of-other = record { open-laid = laid-other_open; front-own = own-other_front; order-laid = laid-order_week; value-laid = laid-other_cells }

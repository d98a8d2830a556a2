use Rattle.mrp_report.proofs.lemmas.page.Puts.{put_then}
use Rattle.mrp_report.proofs.section.pegs.ParentLineLine.put.Goals as goal

pub returns : goal.returns
returns c =
    put_then
    (put_then (put_then (put_then (put_then (put_then c.put_first-end.ensures.put c.put-end.ensures.put) c.put_number-end.ensures.put) c.put-end-2.ensures.put) c.put-end-3.ensures.put) c.put_number-end-2.ensures.put)
    c.put_byte.ensures

-- Three numbers and two masks written one after the other are one run of bytes.
use Rattle.certificate_numbers.proofs.Parts.{parts}
use Rattle.certificate_numbers.proofs.write_certificate.Goals as goal

pub returns : goal.returns
returns c =
    parts c.args.c c.args.a.now c.args.b.now c.requires.0 c.requires.1.ends c.write_number-p.ensures c.write_number-q.ensures
    c.write_number-r.ensures c.write_mask-t.ensures c.write_mask.ensures

use Rattle.pbm_core.proofs.DigitsGather.{as_eight, eight_made}
use Rattle.pbm_core.proofs.digits.gathered.Goals as goal

pub returns : goal.returns
returns c =
    let fits = c.fits-digits in
    rw (as_eight c.args.digits.now c.told-digits)
    (eight_made (record { is = c.from_be_bytes-word.ensures; fits = (fits 0, fits 1, fits 2, fits 3, fits 4, fits 5, fits 6, fits 7) }) c.if-word-ne-ZEROS.false)

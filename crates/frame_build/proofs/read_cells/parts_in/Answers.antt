use Rattle.frame_build.proofs.Reading.{real_parts, imaginary_parts}
use Rattle.frame_build.proofs.read_cells.parts_in.Goals as goal

pub returns-clause-real : goal.returns-clause-real
returns-clause-real c = real_parts c.args.bytes c.fits-bytes.0 c.fits-bytes.1

pub returns-clause-imaginary : goal.returns-clause-imaginary
returns-clause-imaginary c = imaginary_parts c.args.bytes c.fits-bytes.0 c.fits-bytes.1

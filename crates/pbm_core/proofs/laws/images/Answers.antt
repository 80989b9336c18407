use Rattle.pbm_core.proofs.PackedRowsAreRead.{one_image, written_image_is_read}
use Rattle.pbm_core.proofs.ImagesAreRefused.{one_image_fault, image_or_fault}
use Rattle.pbm_core.proofs.laws.images.Goals as goal

pub returns : goal.returns
returns c = record {
  one_image = one_image;
  one_image_fault = one_image_fault;
  image_or_fault = image_or_fault;
  written_image_is_read = written_image_is_read;
}

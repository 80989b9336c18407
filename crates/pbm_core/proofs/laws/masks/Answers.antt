use Rattle.pbm_core.proofs.MaskClearsPadding.{mask_keeps_pixels, mask_is_white}
use Rattle.pbm_core.proofs.BytesPackPixels.{masked_is_packed}
use Rattle.pbm_core.proofs.PixelsFillBytes.{packed_stays}
use Rattle.pbm_core.proofs.laws.masks.Goals as goal

pub returns : goal.returns
returns c = record {
  mask_keeps_pixels = mask_keeps_pixels;
  mask_is_white = mask_is_white;
  masked_is_packed = masked_is_packed;
  packed_stays = packed_stays;
}

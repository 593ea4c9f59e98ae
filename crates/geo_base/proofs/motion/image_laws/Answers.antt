use Rattle.geo_base.proofs.Images.{one_image, different_images, onto}
use Rattle.geo_base.proofs.motion.image_laws.Goals as goal

pub returns : goal.returns
returns c = record { one = one_image; different = different_images; onto = onto }

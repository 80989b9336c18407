use Rattle.t85_core.proofs.ImagesEncode.RowsMakeImage.{front_stands}
use Rattle.t85_core.proofs.laws.fronts.Goals as goal

pub returns : goal.returns
returns c = λ image rows v window origin text so. front_stands image rows v window origin text c.writing_laws.ensures so

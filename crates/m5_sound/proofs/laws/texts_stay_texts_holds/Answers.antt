use Rattle.m5_sound.proofs.AllTexts.{all-texts}
use Rattle.m5_sound.proofs.laws.texts_stay_texts_holds.Goals as goal

pub returns : goal.returns
returns c = all-texts

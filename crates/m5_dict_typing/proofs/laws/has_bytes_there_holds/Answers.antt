use Rattle.m5_dict_typing.proofs.Bytes.{has_bytes_there}
use Rattle.m5_dict_typing.proofs.laws.has_bytes_there_holds.Goals as goal

pub returns : goal.returns
returns c = has_bytes_there

-- Sites that only look for something new and take nothing: the least kind, at which the laws of runs are tried.
use Rattle.std.specs.Prelude.{ℕ, Bool, true, false, List, None}
use Rattle.m5_terms.specs.Machine.{asks}
use Rattle.m5_terms.specs.declared.ask.AskOf.TheVariants as ask
use Rattle.m5_network.specs.Kinds.{Kind}

abbrev pub idle : Kind
idle = record {
  Item = List ℕ;
  State = Bool;
  opens = λ s w. false;
  next = λ s w x. asks ask.Take (λ r. None);
  licensed = λ s w cause x. ⊥;
  is_stopped = λ x. x;
  halted = λ x. true;
  raw = λ bytes. bytes;
  has_seal = λ s i. false;
}

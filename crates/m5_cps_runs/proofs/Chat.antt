-- The chat's blocks are run by computing.
use Rattle.std.specs.Prelude.{◌+◌, length}
use Rattle.std.proofs.Common.{refl, arith}
use Rattle.m5_cps.specs.Units.{text_units}
use Rattle.m5_cps_runs.specs.Chat.{ChatOpens, Writes, Shows, ChatFlows}
use Rattle.m5_cps_runs.proofs.Counting.{spends}

abbrev opened : ChatOpens
opened = record {
  typed = _;
  written = _;
  away = _;
  back = _;
  home = record {
    entered = _;
    taken = _;
    reaches = record {
      answered = _;
      behaves = (
        _,
        record { steps = 0; waiting = _; comes = refl; resume = _; asking = refl; lawful = tt; resumed = refl },
        (
          _,
          record { steps = 0; waiting = _; comes = refl; resume = _; asking = refl; lawful = tt; resumed = refl },
          (
            _,
            record { steps = 0; waiting = _; comes = refl; resume = _; asking = refl; lawful = tt; resumed = refl },
            refl,
          ),
        ),
      );
      steps = 1;
      comes = (_, refl, refl);
    };
  };
  server = record {
    entered = _;
    taken = _;
    reaches = record {
      answered = _;
      behaves = (
        _,
        record { steps = 0; waiting = _; comes = refl; resume = _; asking = refl; lawful = tt; resumed = refl },
        (
          _,
          record { steps = 0; waiting = _; comes = refl; resume = _; asking = refl; lawful = tt; resumed = refl },
          (
            _,
            record { steps = 0; waiting = _; comes = refl; resume = _; asking = refl; lawful = tt; resumed = refl },
            refl,
          ),
        ),
      );
      steps = 0;
      comes = refl;
    };
  };
}

writes : Writes opened
writes t = record {
  away = _;
  back = _;
  blocks_here = 2;
  units_here = text_units (length t) + 11;
  blocks_there = 2;
  units_there = text_units (length t) + 14;
  here = spends (record {
    entered = _;
    taken = _;
    reaches = λ b c. record {
      answered = _;
      behaves = (
        _,
        record { steps = 0; waiting = _; comes = refl; resume = _; asking = refl; lawful = tt; resumed = refl },
        (
          _,
          record { steps = 0; waiting = _; comes = refl; resume = _; asking = refl; lawful = tt; resumed = refl },
          (
            _,
            record { steps = 0; waiting = _; comes = refl; resume = _; asking = refl; lawful = tt; resumed = refl },
            refl,
          ),
        ),
      );
      steps = 1;
      comes = (_, refl, refl);
    };
    more_entered = λ b. omega arith;
    more_taken = λ c. omega arith;
  });
  there = spends (record {
    entered = _;
    taken = _;
    reaches = λ b c. record {
      answered = _;
      behaves = (
        _,
        record { steps = 0; waiting = _; comes = refl; resume = _; asking = refl; lawful = tt; resumed = refl },
        (
          _,
          record { steps = 0; waiting = _; comes = refl; resume = _; asking = refl; lawful = tt; resumed = refl },
          (
            _,
            record { steps = 0; waiting = _; comes = refl; resume = _; asking = refl; lawful = tt; resumed = refl },
            refl,
          ),
        ),
      );
      steps = 0;
      comes = refl;
    };
    more_entered = λ b. omega arith;
    more_taken = λ c. omega arith;
  });
  blocks = refl;
  units = omega arith;
}

shows : Shows opened
shows t = record {
  away = _;
  back = _;
  blocks_here = 2;
  units_here = text_units (length t) + 11;
  blocks_there = 2;
  units_there = text_units (length t) + 14;
  here = spends (record {
    entered = _;
    taken = _;
    reaches = λ b c. record {
      answered = _;
      behaves = (
        _,
        record { steps = 0; waiting = _; comes = refl; resume = _; asking = refl; lawful = tt; resumed = refl },
        (
          _,
          record { steps = 0; waiting = _; comes = refl; resume = _; asking = refl; lawful = tt; resumed = refl },
          (
            _,
            record { steps = 0; waiting = _; comes = refl; resume = _; asking = refl; lawful = tt; resumed = refl },
            refl,
          ),
        ),
      );
      steps = 1;
      comes = (_, refl, refl);
    };
    more_entered = λ b. omega arith;
    more_taken = λ c. omega arith;
  });
  there = spends (record {
    entered = _;
    taken = _;
    reaches = λ b c. record {
      answered = _;
      behaves = (
        _,
        record { steps = 0; waiting = _; comes = refl; resume = _; asking = refl; lawful = tt; resumed = refl },
        (
          _,
          record { steps = 0; waiting = _; comes = refl; resume = _; asking = refl; lawful = tt; resumed = refl },
          (
            _,
            record { steps = 0; waiting = _; comes = refl; resume = _; asking = refl; lawful = tt; resumed = refl },
            refl,
          ),
        ),
      );
      steps = 0;
      comes = refl;
    };
    more_entered = λ b. omega arith;
    more_taken = λ c. omega arith;
  });
  blocks = refl;
  units = omega arith;
}

pub chat_flows : ChatFlows
chat_flows = record { opens = opened; writes = writes; shows = shows }

-- The greeting's blocks are run by computing.
use Rattle.std.specs.Prelude.{ℕ, List, codes}
use Rattle.std.proofs.Common.{refl}
use Rattle.m5_terms.specs.declared.ask.AnswerOf.TheVariants as answer
use Rattle.m5_cps_runs.specs.Greeting.{GreetingAsks, GreetingAsksInOrder}

missing : GreetingAsks answer.Missing (codes "nothing yet")
missing = record {
  away = _;
  back = _;
  home_end = _;
  home = record {
    answered = _;
    behaves = (
      _,
      record { steps = 0; waiting = _; comes = refl; resume = _; asking = refl; lawful = tt; resumed = refl },
      (
        _,
        record { steps = 0; waiting = _; comes = refl; resume = _; asking = refl; lawful = tt; resumed = refl },
        (
          _,
          record { steps = 0; waiting = _; comes = refl; resume = _; asking = refl; lawful = tt; resumed = refl },
          refl,
        ),
      ),
    );
    steps = 1;
    comes = (_, refl, refl);
  };
  home_rests = refl;
  server_end = _;
  server = record {
    answered = _;
    behaves = (
      _,
      record { steps = 0; waiting = _; comes = refl; resume = _; asking = refl; lawful = tt; resumed = refl },
      (
        _,
        record { steps = 0; waiting = _; comes = refl; resume = _; asking = refl; lawful = tt; resumed = refl },
        (
          _,
          record { steps = 1; waiting = _; comes = (_, refl, refl); resume = _; asking = refl; lawful = tt; resumed = refl },
          refl,
        ),
      ),
    );
    steps = 0;
    comes = refl;
  };
  server_rests = refl;
}

found : (t : List ℕ) → GreetingAsks (answer.Found t) t
found t = record {
  away = _;
  back = _;
  home_end = _;
  home = record {
    answered = _;
    behaves = (
      _,
      record { steps = 0; waiting = _; comes = refl; resume = _; asking = refl; lawful = tt; resumed = refl },
      (
        _,
        record { steps = 0; waiting = _; comes = refl; resume = _; asking = refl; lawful = tt; resumed = refl },
        (
          _,
          record { steps = 0; waiting = _; comes = refl; resume = _; asking = refl; lawful = tt; resumed = refl },
          refl,
        ),
      ),
    );
    steps = 1;
    comes = (_, refl, refl);
  };
  home_rests = refl;
  server_end = _;
  server = record {
    answered = _;
    behaves = (
      _,
      record { steps = 0; waiting = _; comes = refl; resume = _; asking = refl; lawful = tt; resumed = refl },
      (
        _,
        record { steps = 0; waiting = _; comes = refl; resume = _; asking = refl; lawful = tt; resumed = refl },
        (
          _,
          record { steps = 1; waiting = _; comes = (_, refl, refl); resume = _; asking = refl; lawful = tt; resumed = refl },
          refl,
        ),
      ),
    );
    steps = 0;
    comes = refl;
  };
  server_rests = refl;
}

pub greeting_asks_in_order : GreetingAsksInOrder
greeting_asks_in_order = (missing, found)

-- A bench before anything was done on it.
use Rattle.std.specs.Prelude.{ℕ, []}
use Rattle.m5_region.specs.declared.bench.Bench.{Bench}

abbrev pub fresh_bench : ℕ → ℕ → Bench
fresh_bench units fuel = record {
  region = record { objects = []; left = units };
  cells = [];
  threads = [];
  slots = [];
  fuel = fuel;
}

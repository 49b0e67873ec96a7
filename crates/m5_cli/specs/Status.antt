-- The numbers of the statuses.
use Rattle.std.specs.Prelude.{ℕ}
use Rattle.m5_cli.specs.declared.status.Status.{Status}
use Rattle.m5_cli.specs.declared.status.Status.TheVariants as status

abbrev pub number_of : Status → ℕ
number_of status.Rest = 0
number_of status.Usage = 1
number_of status.ReadFault = 2
number_of status.WriteFault = 3
number_of status.BadText = 4
number_of status.BadTypes = 5
number_of status.BadScript = 6
number_of status.NoMemory = 7
number_of status.TooLong = 8
number_of status.Stopped = 10
number_of status.Unbuilt = 11
number_of status.Refuted = 12
number_of status.Unsettled = 13

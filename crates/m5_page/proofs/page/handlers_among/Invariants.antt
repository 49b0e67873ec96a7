use Rattle.std.proofs.Common.{◌≡◌, ◌++◌, drop}
use Rattle.m5_page.specs.Page.{handlers_of}
use Rattle.m5_page.proofs.page.handlers_among.Given as goal

-- the numbers so far, and those of the handlers that are left
abbrev pub invariant-loop-handler : goal.invariant-loop-handler
invariant-loop-handler l = l.numbers ++ handlers_of (drop l.handler-index l.handlers) l.element ≡ handlers_of l.handlers l.element

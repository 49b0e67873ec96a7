-- How a proof tells threads and sites apart.
use Rattle.std.specs.Prelude.{ℕ, Bool, List, refl}
use Rattle.std.specs.Coded.{Coded, code_by, coded×, coded_list, coded_ℕ, coded_bool}
use Rattle.m5_terms.specs.Expression.{Expression, expression_code}
use Rattle.m5_terms.specs.declared.thread.Frame.{Frame}
use Rattle.m5_terms.specs.declared.thread.Focus.{Focus}
use Rattle.m5_terms.specs.contracts.thread.Frame as frame_row
use Rattle.m5_terms.specs.contracts.thread.Focus as focus_row
use Rattle.m5_meaning.specs.Site.{Thread, Site}

abbrev pub thread_code : Coded Thread
thread_code =
    code_by (List Frame × Focus) (coded× (coded_list frame_row.the_row.coded) focus_row.the_row.coded)
    (λ t. (t.frames, t.focus)) (λ q. record { frames = q.0; focus = q.1 }) (λ _. refl)

abbrev pub Lists : Type 0
Lists = List Thread × (List Expression × (List Expression))

abbrev pub Counts : Type 0
Counts = ℕ × (ℕ × Bool)

abbrev pub site_code : Coded Site
site_code =
    code_by (Lists × Counts)
    (coded× (coded× (coded_list thread_code) (coded× (coded_list expression_code) (coded_list expression_code))) (coded× coded_ℕ (coded× coded_ℕ coded_bool)))
    (λ s. ((s.threads, (s.cells, s.handlers)), (s.steps, (s.weight, s.stopped))))
    (λ q. record { threads = q.0.0; cells = q.0.1.0; handlers = q.0.1.1; steps = q.1.0; weight = q.1.1.0; stopped = q.1.1.1 })
    (λ _. refl)

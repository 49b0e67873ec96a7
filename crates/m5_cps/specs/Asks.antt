-- How a block ends: what it enters, calls, asks or sends, and what each answer makes of the site.
use Rattle.std.specs.Prelude.{ℕ, ◌+◌, if◌then◌else◌, List, [], ◌∷◌, ◌++◌, length, Option, Some, None, slice_get}
use Rattle.m5_terms.specs.TypeExpression as type
use Rattle.m5_terms.specs.Machine.{goes, asks, wrong}
use Rattle.m5_terms.specs.declared.ask.AskOf.{AskOf}
use Rattle.m5_terms.specs.declared.ask.AskOf.TheVariants as query
use Rattle.m5_terms.specs.declared.ask.AnswerOf.{AnswerOf}
use Rattle.m5_terms.specs.declared.ask.AnswerOf.TheVariants as answer
use Rattle.m5_terms.specs.declared.types.Primitive.{Primitive}
use Rattle.m5_terms.specs.declared.types.Primitive.TheVariants as primitive
use Rattle.m5_terms.specs.declared.form.LeafForm.TheVariants as leaf_form
use Rattle.m5_meaning.specs.Reduction.{unit_or}
use Rattle.m5_meaning.specs.Step.{is_full}
use Rattle.m5_cps.specs.Blocks.{Ending, go, call, ask, send, done}
use Rattle.m5_cps.specs.Values.{left, right, pair, Value, atom, wrap, join, Thread, enter, Item, thread, raw, Site, unit_value, text_value}
use Rattle.m5_cps.specs.Values as value
use Rattle.m5_cps.specs.Units.{text_units, array_units, thread_units, begun_units}
use Rattle.m5_cps.specs.Deeds.{Ran, ends, taking, stops_full}

module _ {C : Type 0} where
  -- the thread goes on once the site has the answer
  abbrev pub after_done : Site C → Thread C → AnswerOf (Item C) → Option (Site C)
  after_done s th answer.Done = Some (record s { threads = th ∷ s.threads })
  after_done s th _ = None

  abbrev pub after_sent : Site C → AnswerOf (Item C) → Option (Site C)
  after_sent s answer.Done = Some s
  after_sent s _ = None

  -- the site makes the answer's objects, of so many units, and enters the continuation with it
  abbrev pub answered : Site C → ℕ → Value C → Value C → Option (Site C)
  answered s c k a = Some (record s { threads = enter k a ∷ s.threads; units = s.units + c })

  abbrev pub after_get_text : Site C → Value C → AnswerOf (Item C) → Option (Site C)
  after_get_text s k (answer.Found t) = answered s (text_units (length t)) k (text_value t)
  after_get_text s k _ = None

  abbrev pub after_read : Site C → Value C → AnswerOf (Item C) → Option (Site C)
  after_read s k (answer.Found t) = answered s (text_units (length t) + 3) k (wrap (right (unit_or type.string)) (text_value t))
  after_read s k answer.Missing = answered s 3 k (wrap (left (unit_or type.string)) unit_value)
  after_read s k _ = None

  -- a handler joins its site's list, and its number is the list's length before
  abbrev pub adds_handler : Site C → (ℕ → AskOf (Item C)) → Value C → Value C → Ran C
  adds_handler s ask_for h k =
      if is_full s.handlers then stops_full s
      else ends (asks (ask_for (length s.handlers)) (after_done (record s { handlers = s.handlers ++ h ∷ [] }) (enter k unit_value)))

  -- the primitive asks for what its argument says
  abbrev pub asked : Site C → Value C → Primitive → Value C → Ran C
  asked s k primitive.Say (atom (leaf_form.Str t)) = ends (asks (query.Say t) (after_done s (enter k unit_value)))
  asked s k primitive.SetText (join pair (atom (leaf_form.Str e)) (atom (leaf_form.Str t))) = ends (asks (query.Set e t) (after_done s (enter k unit_value)))
  asked s k primitive.GetText (atom (leaf_form.Str e)) = ends (asks (query.GetText e) (after_get_text s k))
  asked s k primitive.On (join pair (atom (leaf_form.Str e)) h) = adds_handler s (query.On e) h k
  asked s k primitive.Read (atom (leaf_form.Str e)) = ends (asks (query.Read e) (after_read s k))
  asked s k primitive.Write (join pair (atom (leaf_form.Str e)) (atom (leaf_form.Str t))) = ends (asks (query.Write e t) (after_done s (enter k unit_value)))
  asked s k primitive.Watch (join pair (atom (leaf_form.Str e)) h) = adds_handler s (query.Watch e) h k
  asked s k primitive.Show (atom (leaf_form.Str t)) = ends (asks (query.Show t) (after_done s (enter k unit_value)))
  asked s k p a = ends wrong

  abbrev pub sent : Site C → Value C → Thread C → Ran C
  sent s (atom (leaf_form.Addr v)) th = ends (asks (query.Send v (thread th)) (after_sent s))
  sent s a th = ends wrong

  abbrev pub goes_on : Site C → Thread C → Ran C
  goes_on s th = ends (goes (record s { threads = th ∷ s.threads }))

  -- a primitive is asked at once, by the block that calls it; else the array of the call is made, and the function is called next
  abbrev pub calls : Value C → Value C → Value C → Site C → Ran C
  calls (atom (leaf_form.Extern p)) x k s = asked s k p x
  calls f x k s = taking array_units s (λ s1. goes_on s1 (value.call f x k))

  -- with these slots, a block ends; s is the site without the thread that runs
  abbrev pub ended : Ending → (ℕ → Value C) → Site C → Ran C
  ended (go k x) ρ s = goes_on s (enter (ρ k) (ρ x))
  ended (call f x k) ρ s = calls (ρ f) (ρ x) (ρ k) s
  ended (ask p x k) ρ s = asked s (ρ k) p (ρ x)
  ended (send a k x) ρ s = sent s (ρ a) (enter (ρ k) (ρ x))
  ended done ρ s = ends (goes s)

  -- the threads that call these handlers with the text, to go on with f; a number that the site lacks makes none
  abbrev pub handler_thread : Value C → List ℕ → Option (Value C) → List (Thread C)
  handler_thread f t None = []
  handler_thread f t (Some h) = value.call h (text_value t) f ∷ []

  abbrev pub handler_threads : Value C → Site C → List ℕ → List ℕ → List (Thread C)
  handler_threads f s [] t = []
  handler_threads f s (i ∷ is) t = handler_thread f t (slice_get s.handlers i) ++ handler_threads f s is t

  -- threads begin, and take so many units
  abbrev pub begun : Site C → ℕ → List (Thread C) → Site C
  begun s c ths = record s { threads = s.threads ++ ths; units = s.units + c }

  abbrev pub begun_by : Value C → Site C → List ℕ → List ℕ → Option (Site C)
  begun_by f s is t = let ths = handler_threads f s is t in Some (begun s (begun_units (length t) ths) ths)

  -- a thread that arrives goes into the queue, and raw bytes change nothing; a value takes so many units, and f ends a thread
  abbrev pub after_take : (Value C → ℕ) → Value C → Site C → AnswerOf (Item C) → Option (Site C)
  after_take units f s (answer.Message v (thread th)) = Some (begun s (thread_units units th) (th ∷ []))
  after_take units f s (answer.Message v (raw bytes)) = Some s
  after_take units f s (answer.Fired k i t) = begun_by f s (i ∷ []) t
  after_take units f s (answer.Event e is t) = begun_by f s is t
  after_take units f s _ = None

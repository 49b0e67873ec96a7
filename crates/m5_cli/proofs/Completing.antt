-- An input that its job takes has no other status due than those of a completed job.
use Rattle.std.proofs.Common.{◌≡◌, ◌<◌, ◌≤◌, ℕ, List, length, Ok, inl, inr, subst, arith}
use Rattle.m5_lex.specs.declared.place.Place.{Place}
use Rattle.m5_lex.specs.Lexed.{lexed}
use Rattle.m5_lex.specs.Tokens.{Listing}
use Rattle.m5_front.specs.Reading.{AreAccepted}
use Rattle.m5_front.specs.declared.refusal.Fault.{Fault as FaultOf}
use Rattle.m5_front.specs.declared.refusal.Fault.TheVariants as fault_of
use Rattle.m5_cli.specs.Input.{parts_of}
use Rattle.m5_cli.specs.Expanding.{Expands, HasExpansion, IsBadText, IsBadTypes, IsExpandedRefusal, IsLexical, IsPolyRefusal}
use Rattle.m5_cli.specs.Cases.{IsBadScript, IsRefusal}
use Rattle.m5_cli.specs.Due.{Due}
use Rattle.m5_cli.specs.Leaves.{Takes, Completes}
use Rattle.m5_cli.specs.Taken.{HasProgram, HasScript, input_limit}
use Rattle.m5_cli.specs.declared.words.Job.{Job}
use Rattle.m5_cli.specs.declared.words.Job.TheVariants as job
use Rattle.m5_cli.specs.declared.status.Status.{Status}
use Rattle.m5_cli.specs.declared.status.Status.TheVariants as status

program_of : (input script_text : List ℕ) → HasScript input script_text → HasProgram input
program_of input script_text s = record { short = s.short; tree = s.tree; raw = s.raw; program = s.program; accepted = s.accepted }

-- every job takes short inputs alone
short_of : (j : Job) (input : List ℕ) → Takes j input → length input ≤ input_limit
short_of job.Check input t = t.short
short_of job.Run input t = t.short
short_of job.Ref input t = t.short
short_of job.Expand input t = t.short
short_of job.Replay input t = t.short

not_refused : (meant : Status) (input text : List ℕ) → IsRefusal meant input text → HasProgram input → ⊥
not_refused meant input text r p = r.not_accepted p.tree p.raw p.program p.accepted

not_bad : (input script_text text : List ℕ) → IsBadScript input script_text text → HasScript input script_text → ⊥
not_bad input script_text text b s = let bad = b.script in let says = s.script in cc

-- an input has one expansion
same_out : (input : List ℕ) (a b : Listing) → Expands input a → Expands input b → a ≡ b
same_out input a b h k = let e = h.lexed in let f = k.lexed in let p = h.expansion in let q = k.expansion in cc

not_lexical : (text : List ℕ) (f : FaultOf) (at : Place) (tokens : Listing) → IsLexical text f at → lexed text ≡ Ok tokens → ⊥
not_lexical text fault_of.Byte at tokens h k = cc
not_lexical text fault_of.Number at tokens h k = cc
not_lexical text _ at tokens h k = h

not_expanded : (meant : Status) (input text : List ℕ) → IsExpandedRefusal meant input text → HasExpansion input → ⊥
not_expanded meant input text r t =
    let same : t.out ≡ r.out = same_out input t.out r.out t.expands r.expands in
    let P : Listing → Type 0 = λ l. AreAccepted l t.tree t.raw t.program in
    r.not_accepted t.tree t.raw t.program (subst P same t.accepted)

not_poly : (input text : List ℕ) → IsPolyRefusal input text → HasExpansion input → ⊥
not_poly input text r t =
    let a = r.lexed in let b = t.expands.lexed in let c = r.refused in let d = t.expands.expansion in cc

not_bad_text : (input text : List ℕ) → IsBadText input text → HasExpansion input → ⊥
not_bad_text input text (inl r) t = not_lexical (parts_of input).program r.refusal.fault r.refusal.place t.expands.tokens r.cause t.expands.lexed
not_bad_text input text (inr r) t = not_expanded _ input text r t

not_bad_types : (input text : List ℕ) → IsBadTypes input text → HasExpansion input → ⊥
not_bad_types input text (inl r) t = not_poly input text r t
not_bad_types input text (inr r) t = not_expanded _ input text r t

not_too_long : (input : List ℕ) → input_limit < length input → length input ≤ input_limit → ⊥
not_too_long input long short = omega arith

pub due_completes : (j : Job) (input : List ℕ) (s : Status) (text : List ℕ) → Due s j input text → Takes j input → Completes j s
due_completes j input status.Rest text d t = tt
due_completes job.Check input status.Stopped text d t = d
due_completes job.Run input status.Stopped text d t = d
due_completes job.Ref input status.Stopped text d t = tt
due_completes job.Expand input status.Stopped text d t = d
due_completes job.Replay input status.Stopped text d t = d
due_completes job.Check input status.BadText text d t = absurd (not_refused _ input text d t)
due_completes job.Run input status.BadText text d t = absurd (not_refused _ input text d (program_of input _ t))
due_completes job.Ref input status.BadText text d t = absurd (not_refused _ input text d (program_of input _ t))
due_completes job.Expand input status.BadText text d t = absurd (not_bad_text input text d t)
due_completes job.Replay input status.BadText text d t = absurd (not_refused _ input text d (program_of input _ t))
due_completes job.Check input status.BadTypes text d t = absurd (not_refused _ input text d t)
due_completes job.Run input status.BadTypes text d t = absurd (not_refused _ input text d (program_of input _ t))
due_completes job.Ref input status.BadTypes text d t = absurd (not_refused _ input text d (program_of input _ t))
due_completes job.Expand input status.BadTypes text d t = absurd (not_bad_types input text d t)
due_completes job.Replay input status.BadTypes text d t = absurd (not_refused _ input text d (program_of input _ t))
due_completes job.Check input status.BadScript text d t = d
due_completes job.Run input status.BadScript text d t = not_bad input _ text d t
due_completes job.Ref input status.BadScript text d t = not_bad input _ text d t
due_completes job.Expand input status.BadScript text d t = d
due_completes job.Replay input status.BadScript text d t = not_bad input _ text d t
due_completes job.Check input status.Unbuilt text d t = d
due_completes job.Run input status.Unbuilt text d t = tt
due_completes job.Ref input status.Unbuilt text d t = d
due_completes job.Expand input status.Unbuilt text d t = d
due_completes job.Replay input status.Unbuilt text d t = d
due_completes job.Check input status.Refuted text d t = d
due_completes job.Run input status.Refuted text d t = d
due_completes job.Ref input status.Refuted text d t = d
due_completes job.Expand input status.Refuted text d t = d
due_completes job.Replay input status.Refuted text d t = tt
due_completes job.Check input status.Unsettled text d t = d
due_completes job.Run input status.Unsettled text d t = d
due_completes job.Ref input status.Unsettled text d t = d
due_completes job.Expand input status.Unsettled text d t = d
due_completes job.Replay input status.Unsettled text d t = tt
due_completes j input status.TooLong text d t = absurd (not_too_long input d.0 (short_of j input t))
due_completes j input status.NoMemory text d t = tt
due_completes j input status.ReadFault text d t = tt
due_completes j input status.WriteFault text d t = tt
due_completes job.Check input status.Usage text d t = absurd d
due_completes job.Run input status.Usage text d t = absurd d
due_completes job.Ref input status.Usage text d t = absurd d
due_completes job.Expand input status.Usage text d t = absurd d
due_completes job.Replay input status.Usage text d t = absurd d

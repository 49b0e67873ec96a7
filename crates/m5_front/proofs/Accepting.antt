-- A text that reads is not refused.
use Rattle.std.proofs.Common.{◌≡◌, ℕ, List, Result, Ok, Err, IfOk, IfErr, sym, subst}
use Rattle.m5_lex.specs.declared.place.Place.{Place}
use Rattle.m5_lex.specs.Lexed.{lexed, Fault}
use Rattle.m5_lex.specs.Tokens.{Listing}
use Rattle.m5_tree.specs.Program.{IsProgram}
use Rattle.m5_parse.specs.Answers.{Is}
use Rattle.m5_parse.specs.declared.parse.ParseEnd.{ParseEnd}
use Rattle.m5_parse.specs.declared.parse.ParseEnd.TheVariants as parse
use Rattle.m5_tree.specs.declared.tree.Tree.{Tree}
use Rattle.m5_raw.specs.RawTerm.{RawTerm}
use Rattle.m5_terms.specs.Outcome.{found, fault}
use Rattle.m5_scope.specs.Resolving.{Outcome, IsFault}
use Rattle.m5_scope.specs.declared.end.ScopeEnd.{ScopeEnd}
use Rattle.m5_scope.specs.declared.end.ScopeEnd.TheVariants as scope
use Rattle.m5_scope.specs.Program.{tree_resolved}
use Rattle.m5_typing.specs.Program.{ProgramTerm}
use Rattle.m5_elaborate.specs.Outcome as typing
use Rattle.m5_elaborate.specs.declared.end.TypeEnd.{TypeEnd}
use Rattle.m5_elaborate.specs.declared.end.TypeEnd.TheVariants as types
use Rattle.m5_front.specs.Reading.{HasTree, IsRead, IsNoRefusal}
use Rattle.m5_front.specs.Refusal.{HasCause, HasFault, HaveCause, HaveFault, refusal_of, type_refusal_of}
use Rattle.m5_front.specs.declared.refusal.Fault.{Fault as FaultOf}
use Rattle.m5_front.specs.declared.refusal.Fault.TheVariants as fault_of
use Rattle.m5_front.specs.declared.refusal.FrontEnd.{FrontEnd}
use Rattle.m5_front.specs.declared.refusal.FrontEnd.TheVariants as front

-- no syntax fault is answered for tokens with a tree
pub no_tree : (listing : Listing) (tree : Tree) (at : Place) (end : ParseEnd) → ((t : Tree) → IsProgram listing.tokens t → Is t (Err end))
    → end ≡ parse.Syntax at → HasTree listing tree → ⊥
no_tree listing tree at end only is h =
    let Q : ParseEnd → Type 0 = λ e. Is tree (Err e) in
    subst Q is (only tree h.program)

-- names that are resolved have no fault
not_both : {P : Type 0} (o : Outcome RawTerm) (raw : RawTerm) (e : ScopeEnd) → o ≡ found raw → o ≡ fault e → P
not_both o raw e h k = cc

pub resolved_accepts : (o : Outcome RawTerm) (raw : RawTerm) (e : ScopeEnd) (r : FrontEnd) → o ≡ found raw → IsFault o e → r ≡ refusal_of e → IsNoRefusal r
resolved_accepts o raw scope.Memory r h k is = subst IsNoRefusal (sym is) tt
resolved_accepts o raw (scope.TooMany at) r h k is = not_both o raw (scope.TooMany at) h (k (λ e. cc))
resolved_accepts o raw (scope.Unbound at) r h k is = not_both o raw (scope.Unbound at) h (k (λ e. cc))
resolved_accepts o raw (scope.Repeated at) r h k is = not_both o raw (scope.Repeated at) h (k (λ e. cc))
resolved_accepts o raw (scope.BadExtern at) r h k is = not_both o raw (scope.BadExtern at) h (k (λ e. cc))

-- types that are found have no fault
not_both_types : {P : Type 0} (o : typing.Outcome ProgramTerm) (program : ProgramTerm) (e : TypeEnd) → o ≡ found program → o ≡ fault e → P
not_both_types o program e h k = cc

pub typed_accepts : (o : typing.Outcome ProgramTerm) (program : ProgramTerm) (e : TypeEnd) (r : FrontEnd) → o ≡ found program → typing.IsFault o e → r ≡ type_refusal_of e → IsNoRefusal r
typed_accepts o program types.Memory r h k is = subst IsNoRefusal (sym is) tt
typed_accepts o program (types.Refused kind at) r h k is = not_both_types o program (types.Refused kind at) h (k (λ e. cc))

one_raw : (o : Outcome RawTerm) (a b : RawTerm) → o ≡ found a → o ≡ found b → a ≡ b
one_raw o a b h k = cc

-- the tree of tokens is one, and so is its resolved program
pub one_answer : (listing : Listing) (tree other : Tree) (raw found_raw : RawTerm) → other ≡ tree → tree_resolved other.names other.program ≡ found found_raw
    → IsRead listing tree raw → found_raw ≡ raw
one_answer listing tree other raw found_raw same resolved h =
    let P : Tree → Type 0 = λ t. tree_resolved t.names t.program ≡ found found_raw in
    one_raw (tree_resolved tree.names tree.program) found_raw raw (subst P same resolved) h.resolved

-- a text has one list of tokens
pub one_listing : (o : Result Listing Fault) (a b : Listing) → o ≡ Ok a → o ≡ Ok b → a ≡ b
one_listing o a b h k = cc

-- what is wrong with the tokens of a text is wrong with the text
text_fault : (text : List ℕ) (listing : Listing) (f : FaultOf) (at : Place) → lexed text ≡ Ok listing → HaveFault listing f at → HasFault text f at
text_fault text listing fault_of.Byte at h k = absurd k
text_fault text listing fault_of.Number at h k = absurd k
text_fault text listing fault_of.Syntax at h k = record { listing = listing; tokens = h; later = k }
text_fault text listing fault_of.Deep at h k = record { listing = listing; tokens = h; later = k }
text_fault text listing fault_of.TooMany at h k = record { listing = listing; tokens = h; later = k }
text_fault text listing fault_of.Unbound at h k = record { listing = listing; tokens = h; later = k }
text_fault text listing fault_of.Repeated at h k = record { listing = listing; tokens = h; later = k }
text_fault text listing fault_of.BadExtern at h k = record { listing = listing; tokens = h; later = k }
text_fault text listing (fault_of.Types kind) at h k = record { listing = listing; tokens = h; later = k }

text_cause : (text : List ℕ) (listing : Listing) (end : FrontEnd) → lexed text ≡ Ok listing → HaveCause listing end → HasCause text end
text_cause text listing front.Memory h k = tt
text_cause text listing (front.Refused r) h k = text_fault text listing r.fault r.place h k

-- the answer for the tokens of a text is the text's
pub text_found : {A : Type 0} (P Q : A → Type 0) (r : Result A FrontEnd) → ((a : A) → P a → Q a) → IfOk r P → IfOk r Q
text_found P Q (Ok a) f h = f a h
text_found P Q (Err e) f h = tt

pub text_refused : {A : Type 0} (text : List ℕ) (listing : Listing) (r : Result A FrontEnd) → lexed text ≡ Ok listing → IfErr r (HaveCause listing) → IfErr r (HasCause text)
text_refused text listing (Ok a) l h = tt
text_refused text listing (Err e) l h = text_cause text listing e l h

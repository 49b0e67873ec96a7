-- How a program text is refused: the first fault of bytes and numbers, else of the grammar, else of names, else of types.
use Rattle.std.specs.Prelude.{◌≡◌, ℕ, List, Ok, Err}
use Rattle.m5_lex.specs.declared.place.Place.{Place}
use Rattle.m5_lex.specs.Lexed.{lexed, bad_byte, bad_number}
use Rattle.m5_lex.specs.Tokens.{Listing}
use Rattle.m5_tree.specs.declared.tree.Tree.{Tree}
use Rattle.m5_parse.specs.Answers.{IsSyntaxFault, IsDeepFault}
use Rattle.m5_terms.specs.Outcome.{fault}
use Rattle.m5_scope.specs.Program.{tree_resolved}
use Rattle.m5_scope.specs.declared.end.ScopeEnd.{ScopeEnd}
use Rattle.m5_scope.specs.declared.end.ScopeEnd.TheVariants as scope
use Rattle.m5_raw.specs.RawTerm.{RawTerm}
use Rattle.m5_elaborate.specs.Checked.{elaborated}
use Rattle.m5_elaborate.specs.declared.end.TypeEnd.{TypeEnd}
use Rattle.m5_elaborate.specs.declared.end.TypeEnd.TheVariants as types
use Rattle.m5_front.specs.Reading.{HasTree, IsRead}
use Rattle.m5_front.specs.declared.refusal.Fault.{Fault}
use Rattle.m5_front.specs.declared.refusal.Fault.TheVariants.{Byte, Number, Syntax, Deep, TooMany, Unbound, Repeated, BadExtern, Types}
use Rattle.m5_front.specs.declared.refusal.FrontEnd.{FrontEnd}
use Rattle.m5_front.specs.declared.refusal.FrontEnd.TheVariants.{Memory, Refused}

-- the names of the tokens' tree have this first fault
pub record HasScopeFault (listing : Listing) (end : ScopeEnd) : Type 0 where
  pub tree : Tree
  pub read : HasTree listing tree
  pub fault : tree_resolved tree.names tree.program ≡ fault end

-- the types of the tokens' resolved program have this first fault
pub record HasTypeFault (listing : Listing) (end : TypeEnd) : Type 0 where
  pub tree : Tree
  pub raw : RawTerm
  pub read : IsRead listing tree raw
  pub fault : elaborated raw ≡ fault end

-- what is wrong with tokens: the first that no program has there, or the text's end; the first that is too deep; the first
-- fault of their tree's names, or of its types
abbrev pub HaveFault : Listing → Fault → Place → Type 0
HaveFault listing Byte at = ⊥
HaveFault listing Number at = ⊥
HaveFault listing Syntax at = IsSyntaxFault listing.tokens listing.ending at
HaveFault listing Deep at = IsDeepFault listing.tokens at
HaveFault listing TooMany at = HasScopeFault listing (scope.TooMany at)
HaveFault listing Unbound at = HasScopeFault listing (scope.Unbound at)
HaveFault listing Repeated at = HasScopeFault listing (scope.Repeated at)
HaveFault listing BadExtern at = HasScopeFault listing (scope.BadExtern at)
HaveFault listing (Types kind) at = HasTypeFault listing (types.Refused kind at)

-- the text has tokens, and these have the fault
pub record HasLaterFault (text : List ℕ) (kind : Fault) (at : Place) : Type 0 where
  pub listing : Listing
  pub tokens : lexed text ≡ Ok listing
  pub later : HaveFault listing kind at

-- what is wrong with a text: its first bad byte or number, else what is wrong with its tokens
abbrev pub HasFault : List ℕ → Fault → Place → Type 0
HasFault text Byte at = lexed text ≡ Err (bad_byte at)
HasFault text Number at = lexed text ≡ Err (bad_number at)
HasFault text kind at = HasLaterFault text kind at

-- a refusal of tokens has its cause; want of memory may come at any time
abbrev pub HaveCause : Listing → FrontEnd → Type 0
HaveCause listing Memory = Unit {0}
HaveCause listing (Refused r) = HaveFault listing r.fault r.place

-- a refusal of a text has its cause; want of memory may come at any time
abbrev pub HasCause : List ℕ → FrontEnd → Type 0
HasCause text Memory = Unit {0}
HasCause text (Refused r) = HasFault text r.fault r.place

abbrev pub refused : Fault → Place → FrontEnd
refused kind at = Refused (record { fault = kind; place = at })

-- how a fault of names is answered
abbrev pub refusal_of : ScopeEnd → FrontEnd
refusal_of scope.Memory = Memory
refusal_of (scope.TooMany at) = refused TooMany at
refusal_of (scope.Unbound at) = refused Unbound at
refusal_of (scope.Repeated at) = refused Repeated at
refusal_of (scope.BadExtern at) = refused BadExtern at

-- how a fault of types is answered
abbrev pub type_refusal_of : TypeEnd → FrontEnd
type_refusal_of types.Memory = Memory
type_refusal_of (types.Refused kind at) = refused (Types kind) at

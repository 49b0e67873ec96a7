-- What the variables are bound to, read off a table with an entry for each binder.
use Rattle.std.specs.Prelude.{◌≡◌, ℕ, ◌+◌, ◌==◌, ◌≤◌, if◌then◌else◌, Option, Some, None}
use Rattle.m5_terms.specs.declared.form.UnaryForm.{UnaryForm}
use Rattle.m5_terms.specs.declared.form.UnaryForm.TheVariants.{Sham}
use Rattle.m5_terms.specs.Table as table
use Rattle.m5_terms.specs.declared.table.Binding.{Binding}
use Rattle.m5_terms.specs.declared.table.Binding.TheVariants.{Nothing, One, Two}
use Rattle.m5_typing.specs.Context as typing
use Rattle.m5_typing.specs.Context.{Context, nothing, with}
use Rattle.m5_elaborate.specs.declared.names.Bound.{Bound}
use Rattle.m5_elaborate.specs.declared.names.Bound.TheVariants.{Local, Valid}
use Rattle.m5_elaborate.specs.declared.names.Entry.{Entry}

-- what the rules call a bound
abbrev pub bound_of : Bound → typing.Bound
bound_of (Local w A) = typing.local w A
bound_of (Valid A) = typing.valid A

-- the context inside a form's binders, the first of them innermost
abbrev pub under : Binding Bound → Context → Context
under Nothing G = G
under (One x b) G = with x (Some (bound_of b)) G
under (Two x b y c) G = with x (Some (bound_of b)) (with y (Some (bound_of c)) G)

-- a table as a function from numbers
abbrev pub Entries : Type 0
Entries = ℕ → Option Entry

-- a local name is seen at the depth of `sham` at which it was bound, and not further in
abbrev pub seen_bound : ℕ → ℕ → Bound → Option typing.Bound
seen_bound depth own (Valid A) = Some (typing.valid A)
seen_bound depth own (Local w A) = if own == depth then Some (typing.local w A) else None

-- what an entry says at a depth
abbrev pub seen : ℕ → Option Entry → Option typing.Bound
seen depth None = None
seen depth (Some e) = seen_bound depth e.depth e.bound

-- what is known at a depth
abbrev pub context : ℕ → Entries → Context
context depth s = λ y. seen depth (s y)

-- the depth at which a name was bound
abbrev pub depth_of : Option Entry → ℕ
depth_of None = 0
depth_of (Some e) = e.depth

-- the part of a `sham` is one further in
abbrev pub part_depth : UnaryForm → ℕ → ℕ
part_depth Sham depth = depth + 1
part_depth _ depth = depth

-- no name was bound further in
pub record IsShallow (depth : ℕ) (s : Entries) : Type 0 where
  pub all : (y : ℕ) → depth_of (s y) ≤ depth

-- no name is bound
pub record IsBare (s : Entries) : Type 0 where
  pub known : context 0 s ≡ nothing
  pub shallow : IsShallow 0 s

-- the entry of a name that is bound at this depth
abbrev pub entry : ℕ → Bound → Option Entry
entry depth b = Some (record { depth = depth; bound = b })

-- the binders of a form, each with the depth at which it is bound
abbrev pub at_depth : ℕ → Binding Bound → Binding Entry
at_depth depth Nothing = Nothing
at_depth depth (One x b) = One x (record { depth = depth; bound = b })
at_depth depth (Two x b y c) = Two x (record { depth = depth; bound = b }) y (record { depth = depth; bound = c })

-- the entries inside a form's binders
abbrev pub entered : ℕ → Binding Bound → Entries → Entries
entered depth b s = table.entered (at_depth depth b) s

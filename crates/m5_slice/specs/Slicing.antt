-- The slice of a program at one world: all labels at their numbers, and the code that stands there.
use Rattle.std.specs.Prelude.{if◌then◌else◌, Bool, map}
use Rattle.std.specs.List.{filter}
use Rattle.m5_terms.specs.TypeExpression.{same_world}
use Rattle.m5_terms.specs.Primitives.{primitive_world}
use Rattle.m5_terms.specs.declared.types.World.{World}
use Rattle.m5_cps.specs.Entries.{world_of, entry_mode}
use Rattle.m5_cps.specs.Blocks.{Ending, go, call, ask, send, done}
use Rattle.m5_flat.specs.Blocks.{Code, straight, closure, test, ends, Block, Named, Blocks}
use Rattle.m5_dictionary.specs.Dictionaries.{stands_at}

-- an ask by another world's primitive ends the thread
abbrev pub cut_ending : World → Ending → Ending
cut_ending w (ask p x k) = if same_world (primitive_world p) w then ask p x k else done
cut_ending w (go k x) = go k x
cut_ending w (call f x k) = call f x k
cut_ending w (send a k x) = send a k x
cut_ending w done = done

abbrev pub cut_code : World → Code → Code
cut_code w (straight f c) = straight f (cut_code w c)
cut_code w (closure ls i c) = closure ls i (cut_code w c)
cut_code w (test t x b c) = test t x (cut_code w b) (cut_code w c)
cut_code w (ends e) = ends (cut_ending w e)

-- the block stands at the world, or at each
abbrev pub is_at : World → Block → Bool
is_at w b = stands_at (world_of (entry_mode b.entry)) w

-- a block that does not stand at the world ends at once
abbrev pub cut_block : World → Block → Block
cut_block w b = record b { code = if is_at w b then cut_code w b.code else ends done }

abbrev pub is_primitive_at : World → Named → Bool
is_primitive_at w a = same_world (primitive_world a.primitive) w

-- labels keep their numbers, and no other world's primitives have one
abbrev pub cut : World → Blocks → Blocks
cut w B = record {
  table = map (cut_block w) B.table;
  primitives = filter (is_primitive_at w) B.primitives;
  main = B.main;
  finish = B.finish;
}

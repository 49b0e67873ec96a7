use Rattle.std.proofs.Common.{◌≡◌, map, drop}
use Rattle.std.specs.List.{position_from}
use Rattle.std.specs.Str.{bytes_eq}
use Rattle.m5_lex.specs.Alphabet.{place_of}
use Rattle.m5_lex.proofs.alphabet.place_in.Given as goal

-- the word is none of those before
abbrev pub invariant-loop-place : goal.invariant-loop-place
invariant-loop-place l = place_of l.word (map (λ w. w.now) l.words) ≡ position_from (λ w. bytes_eq w l.word) l.place (map (λ w. w.now) (drop l.place l.words))

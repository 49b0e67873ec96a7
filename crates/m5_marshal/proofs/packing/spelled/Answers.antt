use Rattle.std.proofs.Common.{◌≡◌, ◌∷◌, ◌++◌, ◌∙◌, ◌-◌, ℕ, [], true, length, map, sym, ap, subst, List}
use Rattle.std.proofs.lemmas.List.{length-map}
use Rattle.m5_message.specs.Spelling.{short_of, ids_bytes, contents_bytes}
use Rattle.m5_message.specs.Packing.{Reached, has, place_in, sent}
use Rattle.m5_marshal.specs.code.Keys.{reached, marks, id_of, IsSent, sending, sent_bytes}
use Rattle.m5_marshal.proofs.Sendings.{code_sent, argument_sent, packed_is, joined}
use Rattle.m5_marshal.proofs.packing.spelled.Goals as goal

pub put_distance-requires-clause-there : goal.put_distance-requires-clause-there
put_distance-requires-clause-there c =
    let t = sending c.args.code c.args.argument c.args.argument_id in
    subst (λ (x : List Reached). has x t.code ≡ true) (sym c.requires.keys) (code_sent c.args.dicts.now c.requires.sendable.0 c.args.region.now.objects t c.requires.sendable.1)

pub put_value-requires-clause-sent : goal.put_value-requires-clause-sent
put_value-requires-clause-sent c =
    let t = sending c.args.code c.args.argument c.args.argument_id in
    subst (λ (x : List Reached). IsSent c.args.dicts.now x t.argument_id t.argument) (sym c.requires.keys) (argument_sent c.args.dicts.now c.requires.sendable.0 c.args.region.now.objects t c.requires.sendable.1)

pub returns : goal.returns
returns c w h =
    let d = c.args.dicts.now in
    let os = c.args.region.now.objects in
    let t = sending c.args.code c.args.argument c.args.argument_id in
    let ps = marks c.args.keys.now in
    let seal = c.args.seal.now.0 in
    let n = length c.args.keys.now in
    let count : n ≡ length ps = sym (length-map c.args.keys.now reached) in
    let b = ids_bytes (map id_of ps) in
    let s = contents_bytes d 0 (map id_of ps) (map (sent d os ps) ps) in
    let e = sent_bytes d ps n t.argument_id t.argument in
    let g = short_of (n - place_in ps t.code) in
    c.in_ok-put_value.ensures
    ∙ ap (λ (x : List ℕ). x ++ e) (
    c.in_ok-put_distance.ensures
    ∙ ap (λ (x : List ℕ). x ++ g) (
    c.in_ok-put_contents.ensures
    ∙ ap (λ (x : List ℕ). x ++ s) (
    c.in_ok-put_ids.ensures
    ∙ ap (λ (x : List ℕ). x ++ b) (
    c.in_ok-put_short.ensures
    ∙ ap (λ (x : List ℕ). x ++ short_of n) (
    c.in_ok-push.ensures.items
    ∙ ap (λ (x : List ℕ). x ++ 2 ∷ []) (c.in_ok-extend_from_slice.ensures.items ∙ ap (λ (x : List ℕ). x ++ seal) c.new-out.ensures.items)
    )
    )
    )
    )
    )
    ∙ joined seal (short_of n) b s g e
    ∙ ap (λ (m : ℕ). seal ++ (2 ∷ (short_of m ++ (b ++ (s ++ (short_of (m - place_in ps t.code) ++ sent_bytes d ps m t.argument_id t.argument)))))) count
    ∙ sym (packed_is d w seal os t ps c.are_dictionaries.ensures h c.requires.keys)

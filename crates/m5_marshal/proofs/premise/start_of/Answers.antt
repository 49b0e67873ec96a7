use Rattle.std.proofs.Common.{◌≡◌, ◌∙◌, ◌<◌, ◌^◌, List, length, Some, slice_get, sym, ap, subst, refl}
use Rattle.m5_region.specs.Region.{Refers}
use Rattle.m5_dictionary.specs.declared.line.TypeLine.{TypeLine}
use Rattle.m5_dictionary.specs.declared.line.TypeLine.TheVariants as lines
use Rattle.m5_dictionary.specs.Dictionaries.{Entrance}
use Rattle.m5_message.specs.Packing.{target, Sending}
use Rattle.m5_marshal.specs.declared.key.Key.{Key}
use Rattle.m5_marshal.proofs.Sendings.{entered_at, thread_is}
use Rattle.m5_marshal.proofs.Starting.{label_own, start_kinded, entrance_is}
use Rattle.m5_marshal.proofs.premise.start_of.Goals as goal

pub function_of-id-requires : goal.function_of-id-requires
function_of-id-requires c = subst (λ (x : List TypeLine). length x < 2 ^ 32) (sym c.types.ensures) c.are_dictionaries.ensures.types.few

pub returns-in-None-clause-none : goal.returns-in-None-clause-none
returns-in-None-clause-none c hb =
    let en = entered_at c.args.dicts.now hb.0 c.args.region.now.objects c.args.thread.now hb.1 c.in-Array.at.0 hb.2 hb.3 (sym (ap target c.in-Array.is)) in
    c.in-None.ensures.none en.0 en.1

pub returns-in-None-line-clause-none : goal.returns-in-None-line-clause-none
returns-in-None-line-clause-none c hb =
    let d = c.args.dicts.now in
    let os = c.args.region.now.objects in
    let k : Key = record { at = c.in-Array.at.0; id = c.function_of-id.result } in
    let is = thread_is d hb.0 os c.args.thread.now hb.1 k c.argument-argument_id.result c.types.result.now c.are_dictionaries.ensures hb.2 hb.3 (sym (ap target c.in-Array.is)) (λ (e : Entrance) en. c.argument-argument_id.ensures ∙ ap (λ (x : Entrance). x.argument) (entrance_is d os c.in-Array.at.0 c.in-Some.label.now e c.in-Some.ensures.some en)) c.types.ensures c.function_of-id.ensures in
    let line = subst (λ (t : Sending). slice_get d.types t.code.id ≡ Some (lines.Fun t.argument_id)) is hb.3.closure in
    let no = c.in-None-line.ensures ∙ line in
    cc

pub returns-then-is_same_line-clause-some : goal.returns-then-is_same_line-clause-some
returns-then-is_same_line-clause-some c =
    let d = c.args.dicts.now in
    let os = c.args.region.now.objects in
    let k : Key = record { at = c.in-Array.at.0; id = c.function_of-id.result } in
    let line : slice_get d.types k.id ≡ Some (lines.Fun c.argument-argument_id.result) = sym c.in-Some-line.ensures ∙ ap Some (c.if-is_same_line.ensures.0 refl) in
    record {
      same = (c.in-Array.is, refl);
      code = start_kinded d os k.at k.id c.argument-argument_id.result (subst (Refers os) c.in-Array.is c.requires) line;
      closure = line;
      stands = (c.in-Some.label.now.world, label_own d os k.at c.in-Some.label.now c.in-Some.ensures.some);
      only = λ u w th h. thread_is d w os c.args.thread.now u k c.argument-argument_id.result c.types.result.now c.are_dictionaries.ensures th h (sym (ap target c.in-Array.is)) (λ (e : Entrance) en. c.argument-argument_id.ensures ∙ ap (λ (x : Entrance). x.argument) (entrance_is d os c.in-Array.at.0 c.in-Some.label.now e c.in-Some.ensures.some en)) c.types.ensures c.function_of-id.ensures;
    }

pub returns-else-is_same_line-clause-none : goal.returns-else-is_same_line-clause-none
returns-else-is_same_line-clause-none c hb =
    let d = c.args.dicts.now in
    let os = c.args.region.now.objects in
    let k : Key = record { at = c.in-Array.at.0; id = c.function_of-id.result } in
    let is = thread_is d hb.0 os c.args.thread.now hb.1 k c.argument-argument_id.result c.types.result.now c.are_dictionaries.ensures hb.2 hb.3 (sym (ap target c.in-Array.is)) (λ (e : Entrance) en. c.argument-argument_id.ensures ∙ ap (λ (x : Entrance). x.argument) (entrance_is d os c.in-Array.at.0 c.in-Some.label.now e c.in-Some.ensures.some en)) c.types.ensures c.function_of-id.ensures in
    let line = subst (λ (t : Sending). slice_get d.types t.code.id ≡ Some (lines.Fun t.argument_id)) is hb.3.closure in
    let found : c.in-Some-line.line ≡ lines.Fun c.argument-argument_id.result = some_is _ _ (c.in-Some-line.ensures ∙ line) in
    let wrong = c.if-is_same_line.ensures.1 found in
    cc
  where
    some_is : {A : Type 0} (x y : A) → Some x ≡ Some y → x ≡ y
    some_is x y e = cc

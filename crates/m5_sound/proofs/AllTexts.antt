-- Along a run all texts are texts.
use Rattle.std.proofs.Common.{ℕ, List, [], ◌∷◌, map, refl}
use Rattle.std.specs.List.{AllByRecursion as Each}
use Rattle.m5_terms.specs.Text.{IsText}
use Rattle.m5_terms.specs.declared.ask.Entry.{Entry}
use Rattle.m5_terms.specs.declared.ask.AskOf.{AskOf}
use Rattle.m5_terms.specs.declared.ask.AskOf.TheVariants as ask
use Rattle.m5_terms.specs.declared.ask.AnswerOf.{AnswerOf}
use Rattle.m5_terms.specs.declared.ask.AnswerOf.TheVariants as answer
use Rattle.m5_meaning.specs.Site.{Item, thread, raw}
use Rattle.m5_network.specs.Claim.{has_seal}
use Rattle.m5_network.specs.Entries.{Deed, text_found, read_shown, take_shown, shown, entry_of}
use Rattle.m5_site_sound.specs.Settings.{setting}
use Rattle.m5_site_sound.specs.Texts.{QueryHasTexts, ReplyHasTexts}
use Rattle.m5_sound.specs.Texts.{DeedHasTexts, ActHasTexts}
use Rattle.m5_sound.specs.Laws.{TextsStayTexts}
use Rattle.m5_site_sound.proofs.SiteTexts.{site-texts, items-texts}
use Rattle.m5_sound.proofs.Networks.{DeedFine, reached}
use Rattle.m5_terms.proofs.Lists.{each-map}

found-texts : (r : AnswerOf Item) → ReplyHasTexts r → IsText (text_found r)
found-texts (answer.Found t) h = h
found-texts _ h = refl

read-texts : (k : List ℕ) (r : AnswerOf Item) → IsText k → ReplyHasTexts r → ActHasTexts (read_shown k r)
read-texts k (answer.Found t) i h = (i, h)
read-texts k _ i h = i

take-texts : (r : AnswerOf Item) → ReplyHasTexts r → ActHasTexts (take_shown has_seal r)
take-texts (answer.Message v (thread t)) h = tt
take-texts (answer.Message v (raw bytes)) h = tt
take-texts (answer.Fired k n t) h = h.0
take-texts (answer.Event e ns t) h = h
take-texts _ h = tt

act-texts : (q : AskOf Item) (r : AnswerOf Item) → QueryHasTexts q → ReplyHasTexts r → ActHasTexts (shown has_seal q r)
act-texts (ask.GetText e) r h k = (h, found-texts r k)
act-texts (ask.Read x) r h k = read-texts x r h k
act-texts (ask.Send v i) r h k = tt
act-texts ask.Take r h k = take-texts r k
act-texts _ r h k = h

entries-texts : (ds : List (Deed Item)) → Each DeedHasTexts ds → Each (λ (e : Entry). ActHasTexts e.act) (map (entry_of has_seal) ds)
entries-texts [] h = tt
entries-texts (d ∷ ds) h = (act-texts d.query d.reply h.0.query h.0.reply, entries-texts ds h.1)

pub all-texts : TextsStayTexts
all-texts P S ps ds N s w x c =
    let k = reached P S ps ds N s w x c in
    let texts : Each DeedHasTexts ds = each-map DeedFine DeedHasTexts (λ d f. f.texts) ds k.deeds in
    record {
      site = site-texts (setting P k.comes.to) w x k.comes.typed;
      board = k.network.texts;
      links = λ z u v n. items-texts (setting P (k.of z)) v _ (k.network.links z u v n);
      deeds = texts;
      entries = entries-texts ds texts;
    }

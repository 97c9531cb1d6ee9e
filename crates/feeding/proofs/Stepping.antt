-- One item of a line is taken: its bytes stand in the text, and the others go on after it.
use Rattle.std.specs.Prelude.{None, Ok, Some}
use mathlib.Core.Path.{◌≡◌, refl, sym, ap, ◌∙◌}
use mathlib.Core.Bool.{true, false}
use mathlib.Core.List.{List, [], ◌∷◌, ◌++◌}
use Prim.Native.Nat.{ℕ, zero, suc, ◌+◌, ◌-◌, ◌≤◌}
use native.Mathlib.Omega.{arith}
use lib.ListN.{length, take, drop, length-drop}
use lib.Seq.{take-take, drop-drop, length-take-le}
use Rattle.whole.proofs.Never.{never}
use Rattle.words.specs.Places.{place}
use Rattle.words.specs.declared.places.Place.{Place}
use Rattle.words.proofs.Choices.{by_test}
use Rattle.scanner.specs.Tokens.{token_at}
use Rattle.items.specs.Items as item
use Rattle.items.specs.Items.{DataItems, item_bytes, item_at, with_item, items_from}
use Rattle.items.specs.declared.reading.Item.{Item}
use Rattle.items.proofs.Inside as within
use Rattle.items.proofs.Inside.{item_inside}
use Rattle.items.proofs.Listing.{items_step}
use Rattle.loader.specs.Lines.{line_at}
use Rattle.loader.specs.Loading.{load_of}
use Rattle.loader.specs.declared.lines.LineSpan.{LineSpan}
use Rattle.machine.specs.bridge.Holding.{lines_at, feed_after, start_after, Outside, Inside, Feeds}
use Rattle.machine.proofs.Standing.{Told, told_as}
use Rattle.order.proofs.Texting.{body_at}
use Rattle.feeding.specs.bridge.Taking.{feed_of, Took}
use Rattle.feeding.proofs.Cursor.{feeds_after}

-- ---- a part of a part

take_in : (i len n : ℕ) (s : List ℕ) → i + len ≤ n → take len (drop i (take n s)) ≡ take len (drop i s)
take_in zero len n s h = take-take len n s (omega arith)
take_in (suc i) len zero s h = absurd (omega arith)
take_in (suc i) len (suc n) [] h = refl
take_in (suc i) len (suc n) (b ∷ s) h = take_in i len n s (omega arith)

part_in : (text : List ℕ) (b n i len : ℕ) → i + len ≤ n → take len (drop i (take n (drop b text))) ≡ take len (drop (b + i) text)
part_in text b n i len h = take_in i len n (drop b text) h ∙ ap (take len) (drop-drop i b text)

-- ---- the items of a statement, the first apart

record Split (b : List ℕ) (x : DataItems) (own : List (List ℕ)) (end : ℕ) : Type 0 where
  others : List (List ℕ)
  first : own ≡ b ∷ others
  is : x ≡ item.items others end

split : (b : List ℕ) (x : DataItems) {own : List (List ℕ)} {end : ℕ} → with_item b x ≡ item.items own end → Split b x own end
split b item.bad e = never (cc)
split b (item.items l k) e = record { others = l; first = cc; is = cc }

module _ {text : List ℕ} {span : LineSpan} {at : Place} {l : List (List ℕ)} (loads : load_of text ≡ Ok tt) (is : line_at text span.place ≡ Some span)
    (i : Inside text span.place.0 at.0 l) where
  pub here : Told text span.place.0 span
  here = told_as i.begins loads is

  abbrev body : List ℕ
  body = body_at text span

  pub body_long : length body ≡ span.end.0 - span.body.0
  body_long =
      let t = here in
      length-take-le (span.end.0 - span.body.0) (drop span.body.0 text) (rw (length-drop span.body.0 text) (omega (arith, t.low, t.high)))

  pub inside_line : at.0 ≤ length body
  inside_line = rw here.body i.within

  reads : items_from body at.0 ≡ item.items i.own i.end
  reads = rw here.body i.reads

  after : let f = feed_after span.place span.next (token_at body (place i.end)) in Outside text f.line.0 f.at.0 i.others
  after =
      let t = here in
      let e : place (start_after (lines_at text span.place.0)) ≡ span.next = rw t.here (sym t.next) in
      rw (t.body, ← e) i.after

  -- one does read
  pub not_bad : {P : Type 0} → item_at body at.0 ≡ None → P
  not_bad e = let h = sym (items_step body at.0 inside_line) ∙ reads in let k = rw e at h in never (cc)

  module _ (j : Item) (e : item_at body at.0 ≡ Some j) where
    pub inside : within.Inside body at.0 j
    inside = item_inside body at.0 inside_line j e

    bytes : item_bytes body j ≡ take j.len (drop (span.body.0 + j.from.0) text)
    bytes =
        let k = inside in
        part_in text span.body.0 (span.end.0 - span.body.0) j.from.0 j.len (omega (arith, k.before, k.within, body_long))

    -- those after it, by what ends it
    record Others : Type 0 where
      left : List (List ℕ)
      all : l ≡ item_bytes body j ∷ left
      feeds : Feeds text (feed_of body span j) left

    more_others : j.more ≡ true → Others
    more_others m =
        let t = here in
        let h = sym (items_step body at.0 inside_line) ∙ reads in
        let s = split (item_bytes body j) (items_from body (j.end.0 + 1)) (rw (e, m) at h) in
        let c = inside.comma m in
        record {
          left = s.others ++ i.others;
          all = i.all ∙ ap (λ x. x ++ i.others) s.first;
          feeds = rw m (record {
            begins = i.begins;
            within = rw (← t.body) (omega arith);
            own = s.others;
            end = i.end;
            reads = rw (← t.body) s.is;
            others = i.others;
            after = i.after;
            all = refl;
          });
        }

    last_others : j.more ≡ false → Others
    last_others m =
        let h = sym (items_step body at.0 inside_line) ∙ reads in
        let k = rw (e, m) at h in
        let own : i.own ≡ item_bytes body j ∷ [] = cc in
        let end : i.end ≡ j.end.0 = cc in
        record {
          left = i.others;
          all = i.all ∙ ap (λ x. x ++ i.others) own;
          feeds = rw m (feeds_after span.place span.next (token_at body j.end) (rw end at after));
        }

    others : Others
    others = by_test j.more more_others last_others

    pub inside_took : Took text (place (span.body.0 + j.from.0)) j.len (feed_of body span j) l
    inside_took =
        let t = here in
        let k = inside in
        let o = others in
        record {
          others = o.left;
          all = o.all ∙ rw bytes;
          feeds = o.feeds;
          within = omega (arith, k.before, k.within, body_long, t.low, t.high);
          short = omega (arith, k.before, k.within, ap length t.body, t.short);
        }

-- How many fields the line has decides, and four are a record.
use Rattle.std.proofs.Common.{rules, sym, ◌∙◌}
use Rattle.std.proofs.lemmas.Fn.{always_returns_same}
use Rattle.std.specs.Slice.Iter.{split_rest, split_done}
use Rattle.records.specs.Records.{is_tab}
use Rattle.records.proofs.Fields.{Cut, cut_off, one_field, two_fields, three_fields, four_fields, five_fields}
use Rattle.records.proofs.reading.record_of.Goals as goal

pub returns-in_err-number : goal.returns-in_err-number
returns-in_err-number c =
    let word : Cut (split_rest c.split-fields.result) c.in_ok-word.word.now (split_rest c.next.new.self) (split_done c.next.new.self) =
    cut_off _ _ _ _ c.in_ok-word.ensures.steps.1 (c.in_ok-word.ensures.steps.2 is_tab (always_returns_same _ _ _ (λ a r q k. search rules))).1 in
    c.from_residual-in_err-number.ensures ∙ sym (one_field _ _ c.split-fields.ensures.rest _ _ _ word c.in_err-number.ensures.steps.0)

pub returns-in_err-place : goal.returns-in_err-place
returns-in_err-place c =
    let word : Cut (split_rest c.split-fields.result) c.in_ok-word.word.now (split_rest c.next.new.self) (split_done c.next.new.self) =
    cut_off _ _ _ _ c.in_ok-word.ensures.steps.1 (c.in_ok-word.ensures.steps.2 is_tab (always_returns_same _ _ _ (λ a r q k. search rules))).1 in
    let number : Cut (split_rest c.next.new.self) c.in_ok-number.number.now (split_rest c.next-2.new.self) (split_done c.next-2.new.self) =
    cut_off _ _ _ _ c.in_ok-number.ensures.steps.1 (c.in_ok-number.ensures.steps.2 is_tab (always_returns_same _ _ _ (λ a r q k. search rules))).1 in
    c.from_residual-in_err-place.ensures ∙ sym (two_fields _ _ c.split-fields.ensures.rest _ _ _ word c.in_ok-number.ensures.steps.0 _ _ _ number c.in_err-place.ensures.steps.0)

pub returns-in_err-steps : goal.returns-in_err-steps
returns-in_err-steps c =
    let word : Cut (split_rest c.split-fields.result) c.in_ok-word.word.now (split_rest c.next.new.self) (split_done c.next.new.self) =
    cut_off _ _ _ _ c.in_ok-word.ensures.steps.1 (c.in_ok-word.ensures.steps.2 is_tab (always_returns_same _ _ _ (λ a r q k. search rules))).1 in
    let number : Cut (split_rest c.next.new.self) c.in_ok-number.number.now (split_rest c.next-2.new.self) (split_done c.next-2.new.self) =
    cut_off _ _ _ _ c.in_ok-number.ensures.steps.1 (c.in_ok-number.ensures.steps.2 is_tab (always_returns_same _ _ _ (λ a r q k. search rules))).1 in
    let place : Cut (split_rest c.next-2.new.self) c.in_ok-place.place.now (split_rest c.next-3.new.self) (split_done c.next-3.new.self) =
    cut_off _ _ _ _ c.in_ok-place.ensures.steps.1 (c.in_ok-place.ensures.steps.2 is_tab (always_returns_same _ _ _ (λ a r q k. search rules))).1 in
    c.from_residual-in_err-steps.ensures ∙ sym (three_fields _ _ c.split-fields.ensures.rest _ _ _ word c.in_ok-number.ensures.steps.0 _ _ _ number c.in_ok-place.ensures.steps.0 _ _ _ place c.in_err-steps.ensures.steps.0)

pub returns-in-Some : goal.returns-in-Some
returns-in-Some c =
    let word : Cut (split_rest c.split-fields.result) c.in_ok-word.word.now (split_rest c.next.new.self) (split_done c.next.new.self) =
    cut_off _ _ _ _ c.in_ok-word.ensures.steps.1 (c.in_ok-word.ensures.steps.2 is_tab (always_returns_same _ _ _ (λ a r q k. search rules))).1 in
    let number : Cut (split_rest c.next.new.self) c.in_ok-number.number.now (split_rest c.next-2.new.self) (split_done c.next-2.new.self) =
    cut_off _ _ _ _ c.in_ok-number.ensures.steps.1 (c.in_ok-number.ensures.steps.2 is_tab (always_returns_same _ _ _ (λ a r q k. search rules))).1 in
    let place : Cut (split_rest c.next-2.new.self) c.in_ok-place.place.now (split_rest c.next-3.new.self) (split_done c.next-3.new.self) =
    cut_off _ _ _ _ c.in_ok-place.ensures.steps.1 (c.in_ok-place.ensures.steps.2 is_tab (always_returns_same _ _ _ (λ a r q k. search rules))).1 in
    let steps : Cut (split_rest c.next-3.new.self) c.in_ok-steps.steps.now (split_rest c.next-4.new.self) (split_done c.next-4.new.self) =
    cut_off _ _ _ _ c.in_ok-steps.ensures.steps.1 (c.in_ok-steps.ensures.steps.2 is_tab (always_returns_same _ _ _ (λ a r q k. search rules))).1 in
    let fifth : Cut (split_rest c.next-4.new.self) c.in-Some._fifth.now (split_rest c.next-5.new.self) (split_done c.next-5.new.self) =
    cut_off _ _ _ _ c.in-Some.ensures.steps.1 (c.in-Some.ensures.steps.2 is_tab (always_returns_same _ _ _ (λ a r q k. search rules))).1 in
    sym (five_fields _ _ c.split-fields.ensures.rest _ _ _ word c.in_ok-number.ensures.steps.0 _ _ _ number c.in_ok-place.ensures.steps.0 _ _ _ place c.in_ok-steps.ensures.steps.0 _ _ _ steps c.in-Some.ensures.steps.0 _ _ _ fifth)

pub returns : goal.returns
returns c =
    let word : Cut (split_rest c.split-fields.result) c.in_ok-word.word.now (split_rest c.next.new.self) (split_done c.next.new.self) =
    cut_off _ _ _ _ c.in_ok-word.ensures.steps.1 (c.in_ok-word.ensures.steps.2 is_tab (always_returns_same _ _ _ (λ a r q k. search rules))).1 in
    let number : Cut (split_rest c.next.new.self) c.in_ok-number.number.now (split_rest c.next-2.new.self) (split_done c.next-2.new.self) =
    cut_off _ _ _ _ c.in_ok-number.ensures.steps.1 (c.in_ok-number.ensures.steps.2 is_tab (always_returns_same _ _ _ (λ a r q k. search rules))).1 in
    let place : Cut (split_rest c.next-2.new.self) c.in_ok-place.place.now (split_rest c.next-3.new.self) (split_done c.next-3.new.self) =
    cut_off _ _ _ _ c.in_ok-place.ensures.steps.1 (c.in_ok-place.ensures.steps.2 is_tab (always_returns_same _ _ _ (λ a r q k. search rules))).1 in
    let steps : Cut (split_rest c.next-3.new.self) c.in_ok-steps.steps.now (split_rest c.next-4.new.self) (split_done c.next-4.new.self) =
    cut_off _ _ _ _ c.in_ok-steps.ensures.steps.1 (c.in_ok-steps.ensures.steps.2 is_tab (always_returns_same _ _ _ (λ a r q k. search rules))).1 in
    c.record_from.ensures ∙ sym (four_fields _ _ c.split-fields.ensures.rest _ _ _ word c.in_ok-number.ensures.steps.0 _ _ _ number c.in_ok-place.ensures.steps.0 _ _ _ place c.in_ok-steps.ensures.steps.0 _ _ _ steps c.in_default.ensures.steps.0)

-- The matches of a parse hold a number of each option for numbers, and a value of each required argument.
use Rattle.std.proofs.Common.{List, Some, [], ap, arith, false, inl, inr, length, map, is_some, refl, subst, suc, sym}
use Rattle.std.proofs.Common.{true, zero, true≢false, not, ℕ, Option, ◌&&◌, ◌∙◌, ◌∷◌, ◌≡◌, ◌<◌, ◌≤◌}
use Rattle.std.specs.Borrow.{Bor}
use Rattle.std.specs.List.{All, list_all, list_any, slice_index_or}
use Rattle.std.specs.Prelude.{None, codes}
use Rattle.std.specs.Str.{bytes_eq}
use Rattle.clap.specs.Built.{IsParsedFrom, IsPlain, IsPlainArg}
use Rattle.clap.specs.Facts.{args_of, groups_of, least_values, WantsDefault, unwrap_or_range}
use Rattle.clap.specs.Matches.{first_value, found_of, one_text}
use Rattle.clap.specs.Simple.{app_of, shape_of}
use Rattle.clap.specs.Walk.{Rule, is_free_arg, is_simple_arg, rows_of, rule_of, texts}
use Rattle.clap.specs.Words.{HasMatchesOf, Text, first_of, matches_of}
use Rattle.clap.specs.Texts.{items_of}
use Rattle.clap.specs.declared.builder.arg.Arg.{Arg}
use Rattle.clap.specs.declared.builder.command.Command.{Command}
use Rattle.clap.specs.declared.builder.value_parser.ValueParser.TheVariants as parser
use Rattle.clap.specs.declared.builder.range.ValueRange.{ValueRange}
use Rattle.clap.specs.declared.parser.matches.ArgMatches.{ArgMatches}
use Rattle.clap.proofs.CallerLemmas.{default_present, required_has_value}
use Rattle.clap.proofs.SimpleLemmas.{is_false, is_nil, plain_fields}
use Rattle.clap.proofs.WalkLemmas.{both, first_value-rows}
use Rattle.common_line.specs.Line.{number_rule, positional_rule}
use Rattle.common_line.specs.Matched.{HasNumber, HasRule, IsMatched, IsPlainLine, names_of_clap}
use Rattle.common_line.proofs.Matches.{TakesOne, found_by_id, has_value}
use Rattle.common_line.proofs.Places.{place_of}

is_none : {X : Type 0} (o : Option X) → not (is_some o) ≡ true → o ≡ None
is_none None e = refl
is_none (Some x) e = absurd (true≢false (sym e))

-- a simple argument has no overrides, no conditional defaults, no groups and no delimiter
simple_parts : (a : Arg) → is_simple_arg a ≡ true → (a.overrides.items ≡ []) × (a.default_vals_ifs.items ≡ [])
    × (a.groups.items ≡ []) × (a.val_delim ≡ None)
simple_parts a simple =
    let overrides = both _ _ simple in
    let conditions = both _ _ overrides.1 in
    let groups = both _ _ conditions.1 in
    let delimiter = both _ _ groups.1 in
    (is_nil _ overrides.0, is_nil _ conditions.0, is_nil _ groups.0, is_none a.val_delim delimiter.0)

-- a simple argument that is free excludes nothing
plain_arg : (a : Arg) → is_simple_arg a ≡ true → is_free_arg a ≡ true → IsPlainArg a
plain_arg a simple free =
    let parts = simple_parts a simple in
    let exclusive = both _ _ free in
    let conflicts = both _ _ exclusive.1 in
    (is_false _ exclusive.0, is_nil _ conflicts.0, parts.0, parts.2)

plain_args : (xs : List Arg) → list_all (λ (r : Rule). r.is_simple && r.is_free) (map rule_of xs) ≡ true
    → All IsPlainArg xs
plain_args [] e k d lt = absurd (omega arith)
plain_args (x ∷ xs) e zero d lt =
    let all = both _ _ e in
    let here = both _ _ all.0 in
    plain_arg x here.0 here.1
plain_args (x ∷ xs) e (suc k) d lt = plain_args xs (both _ _ e).1 k d (omega arith)

takes_one : (a : Arg) → a.num_vals ≡ None → 1 ≤ least_values a
takes_one a e = subst (λ (o : Option ValueRange). 1 ≤ (unwrap_or_range o).start_inclusive) (sym e) (omega arith)

length_texts : (xs : List (Bor Text)) → length (texts xs) ≡ length xs
length_texts [] = refl
length_texts (x ∷ xs) = ap suc (length_texts xs)

one_default : (a : Arg) (default : Text) → texts (items_of a.default_vals) ≡ default ∷ []
    → 0 < length (items_of a.default_vals)
one_default a default is = omega (arith, length_texts (items_of a.default_vals), ap length is)

-- a name of an argument is none of clap's
own_name : (name : Text) → list_any (λ taken. bytes_eq taken name) names_of_clap ≡ false
    → (taken : Text) → list_any (λ other. bytes_eq other taken) names_of_clap ≡ true → name ≡ taken → ⊥
own_name name own taken clap same =
    let bad : list_any (λ other. bytes_eq other name) names_of_clap ≡ true = rw same clap in
    true≢false (sym bad ∙ own)

module _ (old : Command) (line : IsPlainLine (app_of old)) where
  is_plain : (shape_of old).is_plain ≡ true
  is_plain = line.plain

  excludes_nothing : IsPlain old
  excludes_nothing = (plain_args (args_of old) line.free, (plain_fields old is_plain).groups)

  no_groups : (m : ArgMatches) (p : IsParsedFrom old m) → groups_of p.built ≡ []
  no_groups m p = (p.from.plain excludes_nothing).1

  -- a parse holds the number of an option
  pub number_found : (m : ArgMatches) → IsParsedFrom old m → (name : Text) (least most : ℕ) (default : Text)
      → HasRule (app_of old) (number_rule name least most default) → HasNumber (found_of m) name least most
  number_found m p name least most default has =
      let place = place_of (number_rule name least most default) (args_of old) has.one in
      let k = place.0 in
      let d = place.1.some in
      let a = slice_index_or (args_of old) k d in
      let rule : rule_of (slice_index_or (args_of old) k d) ≡ number_rule name least most default = place.1.here d in
      let id : (slice_index_or (args_of old) k d).id.now ≡ name = ap (λ (r : Rule). r.id) rule in
      let simple : is_simple_arg (slice_index_or (args_of old) k d) ≡ true = ap (λ (r : Rule). r.is_simple) rule in
      let takes : TakesOne old k d (parser.Unsigned least most) = record {
        below = place.1.below;
        unique = λ j e lt same. place.1.only j e lt (rw (← id) same);
        named = λ e. own_name name has.own [] refl (sym id ∙ e);
        own = λ auto. elim auto [
          | inl e ↦ own_name name has.own (codes "help") refl (sym id ∙ e)
          | inr e ↦ own_name name has.own (codes "version") refl (sym id ∙ e)
        ];
        set = ap (λ (r : Rule). r.action) rule;
        whole = (simple_parts a simple).3;
        least = takes_one a (ap (λ (r : Rule). r.range) rule);
        parser = ap (λ (r : Rule). r.parser) rule;
      } in
      let wants : WantsDefault (slice_index_or (args_of old) k d) =
      ((simple_parts a simple).1, one_default a default (ap (λ (r : Rule). r.defaults) rule)) in
      let fields = plain_fields old is_plain in
      let entry = found_by_id (found_of m).entries.items (slice_index_or (args_of old) k d).id.now
      (default_present old m p fields.globals k d place.1.below wants) in
      let got = has_value old m p (no_groups m p) k d (parser.Unsigned least most) takes entry fields.globals in
      record {
        text = got.0;
        first = subst (λ (t : Text). first_value (found_of m) t ≡ Some got.0) id got.1;
        read = subst (λ (t : Text). one_text (found_of m) t ≡ Some got.0) id got.2;
        within = got.3;
      }

  -- a parse finds a required argument
  pub positional_found : (m : ArgMatches) → IsParsedFrom old m → (name : Text)
      → HasRule (app_of old) (positional_rule name) → is_some (first_value (found_of m) name) ≡ true
  positional_found m p name has =
      let place = place_of (positional_rule name) (args_of old) has.one in
      let k = place.0 in
      let d = place.1.some in
      let a = slice_index_or (args_of old) k d in
      let rule : rule_of (slice_index_or (args_of old) k d) ≡ positional_rule name = place.1.here d in
      let id : (slice_index_or (args_of old) k d).id.now ≡ name = ap (λ (r : Rule). r.id) rule in
      let simple : is_simple_arg (slice_index_or (args_of old) k d) ≡ true = ap (λ (r : Rule). r.is_simple) rule in
      let some : 1 ≤ least_values (slice_index_or (args_of old) k d) = takes_one a (ap (λ (r : Rule). r.range) rule) in
      subst (λ (t : Text). is_some (first_value (found_of m) t) ≡ true) id
      (required_has_value old m p excludes_nothing (plain_fields old is_plain).globals line.strict k d place.1.below
      (ap (λ (r : Rule). r.required) rule) (ap (λ (r : Rule). r.action) rule) ((simple_parts a simple).3) some
      (λ j e lt same. place.1.only j e lt (rw (← id) same))
      (λ e. own_name name has.own [] refl (sym id ∙ e))
      (λ auto. elim auto [
        | inl e ↦ own_name name has.own (codes "help") refl (sym id ∙ e)
        | inr e ↦ own_name name has.own (codes "version") refl (sym id ∙ e)
      ]))

  -- a parse of the words matches them
  pub is_matched : (words : List Text) (m : ArgMatches) → IsParsedFrom old m → HasMatchesOf (app_of old) words m
      → IsMatched (app_of old) words m
  is_matched words m parsed matches =
      let rows : rows_of (found_of m) ≡ matches_of (app_of old) words = (matches (both _ _ line.defined).0).0 in
      record {
        given = λ name. first_value-rows (found_of m) name ∙ ap (first_of name) rows;
        positional = positional_found m parsed;
        number = number_found m parsed;
      }

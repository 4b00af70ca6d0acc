-- `print::Out::rest` meets its contract: those that `at` leads to are left. The measure is how many they are.
use Rattle.std.specs.Prelude.{refl}
use Rattle.std.proofs.Common.{rules}
use Rattle.print.specs.Rest.{rest-start, rest_comma, rest_index, rest-pid, rest_more, rest-less, rest_end}
use Rattle.print.proofs.Out.rest.Goals as goal

pub loop-at-init : goal.loop-at-init
loop-at-init c = record { walking = rest-start c.requires c.get-at.ensures.value; name = refl }

pub text-requires : goal.text-requires
text-requires c = rest_comma c.requires (rw c.in-Some.is at c.loop-at.invariant.walking)

pub pid-requires : goal.pid-requires
pid-requires c = rest-pid c.requires (rw c.in-Some.is at c.loop-at.invariant.walking) c.text.ensures.put

pub get-at-requires-in-Some : goal.get-at-requires-in-Some
get-at-requires-in-Some c = search (rules, rest_index c.requires (rw c.in-Some.is at c.loop-at.invariant.walking))

pub loop-at-smaller : goal.loop-at-smaller
loop-at-smaller c =
    rw c.in-Some.is
    (rest-less c.requires (rw c.in-Some.is at c.loop-at.invariant.walking) c.text.ensures.put c.pid.ensures.put c.get-at-in-Some.ensures.value)

pub loop-at-preserved : goal.loop-at-preserved
loop-at-preserved c =
    record {
      walking =
          rest_more c.requires (rw c.in-Some.is at c.loop-at.invariant.walking) c.text.ensures.put c.pid.ensures.put c.get-at-in-Some.ensures.value;
      name = search rules;
    }

pub returns-clause-put : goal.returns-clause-put
returns-clause-put c = rest_end c.requires (rw c.in_default.is at c.loop-at.invariant.walking)

pub returns-clause-name : goal.returns-clause-name
returns-clause-name c = c.loop-at.invariant.name

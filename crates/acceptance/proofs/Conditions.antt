-- Condition 2 holds: each part is the theorem of its crate. Assumes nothing.
use mathlib.Core.Path.{◌≡◌, refl, ap, ◌∙◌}
use mathlib.Core.List.{List}
use Prim.Native.Nat.{ℕ}
use Rattle.answer.specs.Answer.{accepted, on_accepted}
use Rattle.link.proofs.Laws.First.{first_after_write}
use Rattle.link.proofs.Laws.RoundTrip as Frames
use Rattle.message.proofs.Laws.RoundTrip as Messages
use Rattle.message.proofs.Laws.Carried.{zone_item_lem, event_item_lem, text_item_lem, log_item_lem, command_item_lem, other_type}
use Rattle.message.specs.Command.{read_command}
use Rattle.message.specs.Lists.{zone_status_type, events_type, message_status_type}
use Rattle.message.specs.Message.{fixed}
use Rattle.message.specs.Typed.{with_list}
use Rattle.omnistat.proofs.Laws.Omnistat as Omnistat
use Rattle.omnistat.proofs.Laws.Heard.{written_by_type}
use Rattle.omnistat.specs.declared.frame.End.TheVariants.{Thermostat}
use Rattle.omnistat.specs.Message.{Request, poll, set_from, poll_group}
use Rattle.omnistat.specs.Omnistat.{Message, counted, text, addressed, addressed_counted, read}
use Rattle.x10.proofs.Laws.ReadAfterWrite as PatternsBack
use Rattle.x10.proofs.Laws.WriteAfterRead as Patterns
use Rattle.x10.specs.Pattern.{function}
use Rattle.thermostat.specs.Step.{Done, step, changed}
use Rattle.thermostat.proofs.Laws.Set.{set_stores, set_leaves_the_others, set_stores_none, set_leaves_the_texts, another_address_leaves, leaves_the_map, leaves_the_texts, length-left}
use Rattle.thermostat.proofs.Laws.TextSet.{text_set_stores, text_set_leaves_the_others, text_set_leaves_the_map, texts-length-left, texts-left-allowed, polled_text_is_what_was_set}
use Rattle.thermostat.proofs.Laws.Temperature as Temperatures
use Rattle.tally.proofs.Laws.Run.{exact, taken_at_sum, fitting_is_taken, refused_at_sum, refused_leaves}
use Rattle.listing.proofs.Laws.Faithful.{faithful, only_faithful}
use Rattle.acceptance.specs.Conditions.{Condition2, MessagesReadBack, Items, Unchanged, StepLeaves}

messages : MessagesReadBack
messages = record {
  by_bytes = Messages.read_after_write_bytes;
  by_fixed = λ f s e. (fixed f, refl, Messages.read_after_write_fixed f s e);
  by_typed = λ m d s e. (with_list m d, refl, (Messages.read_after_write_typed m d s e).0);
  typed_count = λ m d s e. (Messages.read_after_write_typed m d s e).1;
  typed_data = Messages.typed_items;
  with_lists = record {
    read_back = λ m s any e. Messages.read_after_write m s e;
    write_back = λ s m t e. Messages.write_after_read s m t e;
  };
}

items : (s : List ℕ) → Items s
items s = record {
  zone = zone_item_lem s;
  event = event_item_lem s;
  text_message = text_item_lem s;
  log_field = log_item_lem s;
  command = command_item_lem s;
  no_zone = λ m i. other_type s zone_status_type _ m;
  no_event = λ m i. other_type s events_type _ m;
  no_text_message = λ m i. other_type s message_status_type _ m;
  no_log_field = λ m i. other_type s 0x0E _ m;
  no_command = other_type s 0x0F read_command;
}

module _ (own : ℕ) (m texts s : List ℕ) (room : ℕ) (d : Done) (first : ℕ) (q : Message Thermostat) (e : step own m texts s room ≡ accepted d)
    (r : read Thermostat s ≡ accepted (addressed first q)) where
  read_as : (p : Message Thermostat) → q ≡ p → read Thermostat s ≡ accepted (addressed first p)
  read_as p is = r ∙ ap (λ (x : Message Thermostat). accepted (addressed first x)) is

  -- a message that sets nothing
  polled : (c : Request) → q ≡ counted c → changed m (counted c) ≡ m → Unchanged m texts d
  polled c is same =
      (leaves_the_map own m texts s room d e first (counted c) (read_as (counted c) is) same, leaves_the_texts own m texts s room d e first (counted c) (read_as (counted c) is) refl)

  steps : StepLeaves own first q m texts d
  steps = record {
    same_length = length-left own m texts s room d e first q r;
    same_texts_length = texts-length-left own m texts s room d e first q r;
    texts-allowed = texts-left-allowed own m texts s room d e first q r;
    another_address = another_address_leaves own m texts s room d e first q r;
    polled = λ start count is. polled (poll start count) is refl;
    group_polled = λ g is. polled (poll_group g) is refl;
    register_write = λ start values is f. record {
      stores = set_stores own m texts s room d e first start values (read_as (counted (set_from start values)) is) f;
      leaves_the_others = set_leaves_the_others own m texts s room d e first start values (read_as (counted (set_from start values)) is) f;
      stores_none = set_stores_none own m texts s room d e first start values (read_as (counted (set_from start values)) is) f;
    };
    register_write_leaves_texts = λ start values is.
        set_leaves_the_texts own m texts s room d e first start values (read_as (counted (set_from start values)) is);
    text_write = λ t is f. record {
      stores_count = (text_set_stores own m texts s room d e first t (read_as (text t) is) f).0;
      stores_characters = (text_set_stores own m texts s room d e first t (read_as (text t) is) f).1;
      leaves_the_others = text_set_leaves_the_others own m texts s room d e first t (read_as (text t) is) f;
    };
    text_write_leaves_map = λ t is. text_set_leaves_the_map own m texts s room d e first t (read_as (text t) is);
  }

pub condition_2 : Condition2
condition_2 = record {
  frames = record {
    read_back = λ f s any e. Frames.read_after_write f.kind f.bytes s e;
    write_back = λ s f t e. Frames.write_after_read s f t e;
  };
  first_frame = first_after_write;
  messages = messages;
  items = items;
  omnistat2 = λ end known. record {
    read_back = λ a s any e. Omnistat.read_after_write end known a.address a.message s e;
    write_back = λ s a t e. Omnistat.write_after_read end known a.address a.message s t e;
  };
  omnistat2_counted = λ end known address c s e.
      (Omnistat.write_after_read_counted end known address c s e, written_by_type end known address c s e);
  omnistat2_by_bytes = λ end known address kind payload s e.
      let b = Omnistat.read_after_write_bytes end known address kind payload s e in
      (addressed_counted end address b.0, ap (on_accepted (addressed_counted end address)) b.1, b.2);
  patterns = record {
    read_back = λ m ps b e. PatternsBack.read_after_write m ps b e;
    write_back = λ ps m any e. Patterns.write_after_read ps m e;
  };
  functions_by_code = λ house code ps e.
      let b = PatternsBack.read_after_write_code house code ps e in
      (function house b.0, ap (on_accepted (function house)) b.1, b.2);
  steps = steps;
  polled_text = polled_text_is_what_was_set;
  temperatures = record {
    byte_back = Temperatures.read_after_write;
    degrees_back = Temperatures.write_after_read;
    pair_back = Temperatures.pair_read_after_write;
    pair_degrees_back = Temperatures.pair_write_after_read;
  };
  exact_sum_lem = exact;
  meter_calls = λ before c after p. record {
    taken = taken_at_sum before c after p;
    fitting = fitting_is_taken before c after p;
    refused_with = refused_at_sum before c after p;
    unchanged = refused_leaves before c after p;
  };
  listing = faithful;
  only-listing = only_faithful;
}

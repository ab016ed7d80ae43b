-- Readers that take what is there read alike all replies of the right kinds.
use Rattle.std.proofs.Common.{◌≡◌, ℕ, List, Option, Some, None, refl, subst}
use Rattle.std.specs.Prelude.{IsSomeAnd, slice_get}
use Rattle.bt_core.specs.declared.context.Context.{Context}
use Rattle.bt_core.specs.declared.map.AggKind.{AggKind}
use Rattle.bt_core.specs.declared.map.MapDecl.{MapDecl}
use Rattle.bt_core.specs.declared.map.MapId.{MapId}
use Rattle.bt_core.specs.declared.map.MapKind.{MapKind}
use Rattle.bt_core.specs.declared.map.MapKind.TheVariants.{Ints, Strs, Aggs}
use Rattle.bt_core.specs.declared.map.Shape.TheVariants as shapes
use Rattle.bt_core.specs.declared.step.Op.TheVariants as ops
use Rattle.bt_core.specs.declared.step.Reply.{Reply}
use Rattle.bt_core.specs.declared.step.Reply.TheVariants as replies
use Rattle.bt_core.specs.declared.value.Value.{Value}
use Rattle.bt_core.specs.declared.value.Value.TheVariants.{Int, Str}
use Rattle.bt_core.specs.Kinds.{IsOfKind}
use Rattle.bt_core.specs.Ports.{Setting, IsReplyOf, IsSharedReply, IsTableReply}
use Rattle.map_rows.specs.Merged.{rows_in}
use Rattle.typed_tree.specs.declared.body.TypedBody.{TypedBody}
use Rattle.map_ops.specs.declared.sweep.Sweep.TheVariants.{Read}
use Rattle.walk_meaning.specs.declared.view.View.{View}
use Rattle.map_ops.specs.Values.{number_of, text_of, value_of}
use Rattle.walk_meaning.specs.Maps.{kind_in_body}
use Rattle.map_ops.specs.Holders.{holder, sweep_op}
use Rattle.walk_meaning.specs.Reading.{Reader, TakesWhatIsThere, own_reader, walk_by}
use Rattle.walk_meaning.specs.SameUnder.{SameUnder, SameAlways, IsReplyTo}
use Rattle.walk_meaning.specs.Walk.{walk}
use Rattle.walk_meaning.specs.Served.{CanWalk, IsServed}
use Rattle.walk_meaning.proofs.Declared.{valued}
use Rattle.walk_meaning.proofs.ReadExprs.{ReadsAlike}
use Rattle.walk_meaning.proofs.ReadStmts.{walks-same}

-- what holds of the declaration that is found
found_holds : (o : Option MapDecl) (decl : MapDecl) (P : MapDecl → Type 0) → o ≡ Some decl → IsSomeAnd o P → P decl
found_holds o decl P e h = subst (λ (x : Option MapDecl). IsSomeAnd x P) e h

-- a value of this kind holds a number, or a string
number_is : (reader : Reader) → TakesWhatIsThere reader → (kind : MapKind) → kind ≡ Ints → (value : Value) → IsOfKind kind value → reader.number (replies.Value value) ≡ number_of value
number_is reader takes Ints e (Int n) h = takes.number n
number_is reader takes Ints e (Str s) h = absurd h
number_is reader takes Strs e value h = cc
number_is reader takes (Aggs a) e value h = cc

text_is : (reader : Reader) → TakesWhatIsThere reader → (kind : MapKind) → kind ≡ Strs → (value : Value) → IsOfKind kind value → reader.text (replies.Value value) ≡ text_of value
text_is reader takes Ints e value h = cc
text_is reader takes Strs e (Int n) h = absurd h
text_is reader takes Strs e (Str s) h = takes.text s
text_is reader takes (Aggs a) e value h = cc

got_number : (reader : Reader) → TakesWhatIsThere reader → (decl : MapDecl) (key : List Value) (reply : Reply) → decl.kind ≡ Ints → IsSharedReply decl (ops.Get key) reply → reader.number reply ≡ number_of (value_of reply)
got_number reader takes decl key replies.Done e h = absurd h
got_number reader takes decl key (replies.Value value) e h = number_is reader takes decl.kind e value h
got_number reader takes decl key (replies.Pairs rows) e h = absurd h
got_number reader takes decl key (replies.Aggs rows) e h = absurd h
got_number reader takes decl key (replies.Last last) e h = absurd h
got_number reader takes decl key (replies.Stopped stopped) e h = absurd h

got_text : (reader : Reader) → TakesWhatIsThere reader → (decl : MapDecl) (key : List Value) (reply : Reply) → decl.kind ≡ Strs → IsSharedReply decl (ops.Get key) reply → reader.text reply ≡ text_of (value_of reply)
got_text reader takes decl key replies.Done e h = absurd h
got_text reader takes decl key (replies.Value value) e h = text_is reader takes decl.kind e value h
got_text reader takes decl key (replies.Pairs rows) e h = absurd h
got_text reader takes decl key (replies.Aggs rows) e h = absurd h
got_text reader takes decl key (replies.Last last) e h = absurd h
got_text reader takes decl key (replies.Stopped stopped) e h = absurd h

some_and : (o : Option MapDecl) (P : MapDecl → Type 0) (Q : Type 0) → ((d : MapDecl) → P d → Q) → IsSomeAnd o P → Q
some_and None P Q f h = absurd h
some_and (Some d) P Q f h = f d h

pairs_are : (reader : Reader) → TakesWhatIsThere reader → (decl : MapDecl) (reply : Reply) → IsSharedReply decl ops.ReadAll reply →
    (reader.rows Ints reply ≡ rows_in Ints reply) × (reader.rows Strs reply ≡ rows_in Strs reply)
pairs_are reader takes decl replies.Done h = absurd h
pairs_are reader takes decl (replies.Value value) h = absurd h
pairs_are reader takes decl (replies.Pairs rows) h = (takes.values Ints rows tt, takes.values Strs rows tt)
pairs_are reader takes decl (replies.Aggs rows) h = absurd h
pairs_are reader takes decl (replies.Last last) h = absurd h
pairs_are reader takes decl (replies.Stopped stopped) h = absurd h

aggregates_are : (reader : Reader) → TakesWhatIsThere reader → (maps : List MapDecl) (m : MapId) (reply : Reply) → IsTableReply maps (ops.Read m) reply → (a : AggKind) → reader.rows (Aggs a) reply ≡ rows_in (Aggs a) reply
aggregates_are reader takes maps m replies.Done h a = absurd h
aggregates_are reader takes maps m (replies.Value value) h a = absurd h
aggregates_are reader takes maps m (replies.Pairs rows) h a = absurd h
aggregates_are reader takes maps m (replies.Aggs rows) h a = takes.aggregates a rows
aggregates_are reader takes maps m (replies.Last last) h a = absurd h
aggregates_are reader takes maps m (replies.Stopped stopped) h a = absurd h

rows_are : (reader : Reader) → TakesWhatIsThere reader → (maps : List MapDecl) (m : MapId) (n : ℕ) (kind : MapKind) (reply : Reply) → IsReplyOf maps (holder kind m n) (sweep_op Read kind m) reply → reader.rows kind reply ≡ rows_in kind reply
rows_are reader takes maps m n Ints reply h = some_and (slice_get maps m.0) _ _ (λ d p. (pairs_are reader takes d reply p).0) h
rows_are reader takes maps m n Strs reply h = some_and (slice_get maps m.0) _ _ (λ d p. (pairs_are reader takes d reply p).1) h
rows_are reader takes maps m n (Aggs a) reply h = aggregates_are reader takes maps m reply h a

alike : (v : View) (setting : Setting) (reader : Reader) → IsServed v setting → TakesWhatIsThere reader → ReadsAlike (IsReplyTo setting.maps) reader v
alike v setting reader served takes =
    record {
      numbers = λ m keys key reply d h.
          let f = valued v setting m keys shapes.Int served d in
          got_number reader takes f.decl key reply f.kind (found_holds (slice_get setting.maps m.0) f.decl (λ decl. IsSharedReply decl (ops.Get key) reply) f.here h);
      texts = λ m keys key reply d h.
          let f = valued v setting m keys shapes.Str served d in
          got_text reader takes f.decl key reply f.kind (found_holds (slice_get setting.maps m.0) f.decl (λ decl. IsSharedReply decl (ops.Get key) reply) f.here h);
      rows = λ m n reply named h. rows_are reader takes setting.maps m n (kind_in_body m v.body.now.maps) reply h;
    }

abbrev view_of : TypedBody → Context → List ℕ → ℕ → ℕ → View
view_of body context payload actor actors = record { body = record { ref_ptr = (0, 0); now = body }; context = record { ref_ptr = (0, 0); now = context }; payload = record { ref_ptr = (0, 0); now = payload }; actor = actor; actors = actors }

pub same_under : (setting : Setting) (body : TypedBody) (context : Context) (payload : List ℕ) (actor actors : ℕ) (reader : Reader) → CanWalk setting body context payload actor actors → TakesWhatIsThere reader →
    SameUnder setting.maps (walk_by reader body context payload actor actors) (walk body context payload actor actors)
same_under setting body context payload actor actors reader can takes =
    walks-same (IsReplyTo setting.maps) reader (view_of body context payload actor actors) (alike (view_of body context payload actor actors) setting reader (record { can = can; fine = body.fine }) takes)

pub same_always : (body : TypedBody) (context : Context) (payload : List ℕ) (actor actors : ℕ) → SameAlways (walk_by own_reader body context payload actor actors) (walk body context payload actor actors)
same_always body context payload actor actors =
    walks-same (λ call reply. Unit {0}) own_reader (view_of body context payload actor actors)
    (record { numbers = λ m keys key reply d h. refl; texts = λ m keys key reply d h. refl; rows = λ m n reply named h. refl })

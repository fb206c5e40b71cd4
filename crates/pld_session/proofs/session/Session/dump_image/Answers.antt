use Rattle.std.proofs.Common.{◌≡◌, ◌<◌, true, Some, length, sym, ap, ◌∙◌, subst, arith, rules}
use Rattle.std.specs.Prelude.{IfSome, is_some, slice_index_or}
use Rattle.pld_graph.specs.Design.{place_of}
use Rattle.image_form.specs.Spelling.{bytes_of}
use Rattle.pld_reply.specs.Replies.{image_reply}
use Rattle.pld_session.specs.States.{State, BuildValue, IsBuild, images}
use Rattle.pld_session.proofs.Told.{dump_told, images_many}
use Rattle.pld_session.proofs.session.Session.dump_image.Goals as goal

pub index-requires : goal.index-requires
index-requires c =
    let k = c.in-Some-place_of.k in
    let build = subst (λ o. IfSome o (λ made. IsBuild c.self.inside.draft made)) c.in-Some.is c.self.invariant.3 in
    let many = images_many c.self.inside.draft c.in-Some.build c.sources-sources.ensures.kept build in
    let w = subst (λ g. k < length g.operators) c.graph.ensures c.in-Some-place_of.ensures.within in
    let l : k < length c.in-Some.build.images = omega (arith, w, many) in
    let there : k < length c.build.inside.images.items = subst (λ (b : BuildValue). k < length b.images) (sym c.build.view_is) l in
    search rules

pub returns : goal.returns
returns c =
    let k = c.in-Some-place_of.k in
    let build = subst (λ o. IfSome o (λ made. IsBuild c.self.inside.draft made)) c.in-Some.is c.self.invariant.3 in
    let many = images_many c.self.inside.draft c.in-Some.build c.sources-sources.ensures.kept build in
    let w = subst (λ g. k < length g.operators) c.graph.ensures c.in-Some-place_of.ensures.within in
    let l : k < length c.in-Some.build.images = omega (arith, w, many) in
    let form = c.index.result.now in
    let place : place_of c.args.name c.self.inside.draft.design ≡ Some k = ap (place_of c.args.name) (sym c.graph.ensures) ∙ sym c.in-Some-place_of.ensures.place in
    let said : c.put_image.new.reply.items ≡ image_reply c.args.name (bytes_of form) = search rules in
    dump_told c.args.self.now c.args.number c.args.name k form c.put_image.new.reply.items
    (subst (λ (st : State). st.built ≡ true) c.self.view_is (ap is_some c.in-Some.is))
    (subst (λ (st : State). place_of c.args.name st.draft.design ≡ Some k) c.self.view_is place)
    (subst (λ (st : State). k < length (images st.draft)) c.self.view_is (subst (λ xs. k < length xs) build.images l))
    (subst (λ (st : State). form ≡ slice_index_or (images st.draft) k form) c.self.view_is (subst (λ xs. form ≡ slice_index_or xs k form) build.images (subst (λ (b : BuildValue). form ≡ slice_index_or b.images k form) c.build.view_is c.index.ensures)))
    said
